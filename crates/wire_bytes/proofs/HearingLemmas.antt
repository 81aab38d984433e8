-- What was taken of a source says alone what was heard.
use Rattle.std.proofs.Common.{◌≡◌, ℕ, false, List, Option, Some, Result, Ok, refl, sym, subst, ap, ◌∙◌}
use Rattle.std.specs.Option.{ForSome}
use Rattle.io_edge.specs.Edge.{Reads}
use Rattle.http_front.specs.Answers.{UnlessInterrupted}
use Rattle.http_front.specs.Reading.{SpellsRequest}
use Rattle.http_front.specs.declared.message.FrontRefused.{FrontRefused}
use Rattle.http_front.specs.declared.message.WireRequest.{WireRequest}
use Rattle.wire_fields.specs.Fits.{lacks_memory}
use Rattle.wire_fields.specs.Secrets.{Secrets}
use Rattle.wire_fields.specs.declared.refused.WireRefused.{WireRefused}
use Rattle.aire_wire.specs.Incoming.{incoming}
use Rattle.aire_wire.specs.Known.{IsKnown}
use Rattle.aire_wire.specs.declared.incoming.Incoming.{Incoming}
use Rattle.wire_bytes.specs.Hearing.{TakenSays}
use Rattle.wire_bytes.proofs.Alone.{request_alone}
use Rattle.wire_bytes.proofs.Paths.{path_read}

-- the answer that the bytes which were left decide
abbrev pub Read : Reads → Reads → Result WireRequest FrontRefused → Type 0
Read before now answer =
    UnlessInterrupted answer (ForSome before.left (λ bytes. (rest : List ℕ) × (now.left ≡ Some rest) × SpellsRequest bytes answer rest))

said_by : (me : List ℕ) (peers : Secrets) (console : List ℕ) (request : WireRequest) (message : Incoming) (answer : Result Incoming WireRefused) → answer ≡ Ok message
    → (lacks_memory answer ≡ false → answer ≡ incoming me peers console request) → incoming me peers console request ≡ Ok message
said_by me peers console request message answer is says = sym (says (ap lacks_memory is)) ∙ is

some_same : (a b : List ℕ) → ◌≡◌ {A = Option (List ℕ)} (Some a) (Some b) → a ≡ b
some_same a b same = cc

pub heard_alone : (me : List ℕ) (peers : Secrets) (console : List ℕ) (before now : Reads) (request : WireRequest) (message : Incoming) (answer : Result Incoming WireRefused)
    → Read before now (Ok request) → answer ≡ Ok message → (lacks_memory answer ≡ false → answer ≡ incoming me peers console request)
    → IsKnown me peers console request message → TakenSays me peers console before now message
heard_alone me peers console before now request message answer read is says known = λ bytes some taken rest left split.
    let it = read refl bytes some in
    let same : it.0 ≡ rest = some_same it.0 rest (sym it.1 ∙ left) in
    let here = subst (λ (r : List ℕ). SpellsRequest bytes (Ok request) r) same it.2 in
    let there = subst (λ (b : List ℕ). SpellsRequest b (Ok request) rest) split here in
    (request, request_alone taken rest request there, said_by me peers console request message answer is says, known, path_read bytes request it.0 it.2)
