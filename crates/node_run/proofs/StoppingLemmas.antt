-- A request to stop, from the connection on which it was heard to the one to which the reply was written.
use Rattle.std.proofs.Common.{◌≡◌, inl, inr, ℕ, ◌+◌, ◌<◌, List, [], ◌++◌, Some, Result, Ok, Err, OnOk, OnErr, length, take, drop, refl, sym, subst, ap, ◌∙◌, arith}
use Rattle.std.proofs.Math.Seq.{take-append_seam, take-length}
use Rattle.std.proofs.lemmas.List.{append_assoc, take-append-drop}
use Rattle.lang_core.specs.declared.inputs.Inputs.{Inputs}
use Rattle.io_edge.specs.Edge.{Reads, Writes, Wrote, WroteShort, WriteFails}
use Rattle.io_links.specs.Connections.{IsNew}
use Rattle.http_front.specs.Reading.{SpellsRequest, request_behind}
use Rattle.http_front.specs.declared.message.FrontRefused.{FrontRefused}
use Rattle.http_front.specs.declared.message.WireRequest.{WireRequest}
use Rattle.http_front.specs.declared.request_head.RequestStart.{RequestStart}
use Rattle.aire_wire.specs.declared.incoming.Incoming.TheVariants.{Console}
use Rattle.wire_fields.specs.declared.console.ConsoleRequest.{ConsoleRequest}
use Rattle.wire_fields.specs.declared.console.ConsoleWord.TheVariants.{Stop}
use Rattle.node_core.specs.declared.notes.Notes.{Notes}
use Rattle.node_core.specs.declared.receipt.Receipt.{Receipt}
use Rattle.node_workers.specs.Desks.{Endpoint}
use Rattle.node_workers.specs.HandedOn.{Served}
use Rattle.node_workers.specs.HandedOn as served
use Rattle.node_workers.specs.Serving.{Hears, IsServed}
use Rattle.node_run.specs.Stopping.{IsUnwritten, WasAsked, WasAskedToStop, WasReplied}

-- what is left behind a request stood behind what was taken for it
begins_with : (head : ℕ) (behind rest : List ℕ) (request : WireRequest) (start : Result RequestStart FrontRefused) → request_behind head behind start ≡ (Ok request, rest)
    → (n : ℕ) × (drop n behind ≡ rest)
begins_with head behind rest request (Err why) e = absurd (let h : Err why ≡ Ok request = ap (λ p. p.0) e in cc)
begins_with head behind rest request (Ok start) e = (start.length, ap (λ p. p.1) e)

cut_behind : (bytes rest : List ℕ) (request : WireRequest) → SpellsRequest bytes (Ok request) rest → (taken : List ℕ) × (bytes ≡ taken ++ rest)
cut_behind bytes rest request (inl unread) = absurd (let h : Ok request ≡ Err unread.0 = unread.1 in cc)
cut_behind bytes rest request (inr found) =
    let head : List ℕ = found.0 in
    let behind : List ℕ = found.1 in
    let begun = begins_with (length head) behind rest request found.3.0 found.3.2 in
    let taken : List ℕ = head ++ take begun.0 behind in
    let parts : behind ≡ take begun.0 behind ++ rest = sym (take-append-drop begun.0 behind) ∙ ap (λ xs. take begun.0 behind ++ xs) begun.1 in
    (taken, found.2.0 ∙ (ap (λ xs. head ++ xs) parts ∙ sym (append_assoc head (take begun.0 behind) rest)))

-- what was heard on a new connection is what was taken from it
heard_asked : (e : Endpoint) (before now : Reads) (writes : Writes) (asked : ConsoleRequest) → IsNew before writes → now.whole ≡ before.whole
    → Hears e before now (Console asked) → WasAsked e.me e.console now asked
heard_asked e before now writes asked new whole heard = λ all is.
    let there : before.left ≡ Some all = new.untaken ∙ (sym whole ∙ is) in
    let said = heard.0 refl all there in
    let rest : List ℕ = said.0 in
    let cut = cut_behind all rest said.2.0 said.2.1 in
    let known = heard.1 all there cut.0 rest said.1 cut.1 in
    (cut.0, rest, said.1, cut.1, record { request = known.0; spelled = known.1; says = known.3.alone })

-- nothing was written to it yet
still_unwritten : (before now : Reads) (writes writes_now : Writes) (bytes : List ℕ) → IsNew before writes → now.whole ≡ before.whole → bytes ≡ []
    → Wrote writes writes_now bytes → IsUnwritten now writes_now
still_unwritten before now writes writes_now bytes new whole none wrote = λ all is.
    let there : before.whole ≡ Some all = sym whole ∙ is in
    let empty : writes.written ≡ Some [] = rw there at new.unwritten in
    wrote [] empty ∙ ap (λ xs. Some ([] ++ xs)) none

-- likewise of a connection that was served as an operator's
pub served_asked : (e : Endpoint) (i : Inputs) (before now : Reads) (writes writes_now : Writes) (notes : Notes) (had have : List Receipt) (answer : Served)
    (asked : ConsoleRequest) → IsNew before writes → now.whole ≡ before.whole → IsServed e i before now writes writes_now notes had have answer → answer ≡ served.Console asked
    → WasAsked e.me e.console now asked
served_asked e i before now writes writes_now notes had have answer asked new whole so is =
    let P : Served → Type 0 = λ given. IsServed e i before now writes writes_now notes had have given in
    let serves : P (served.Console asked) = subst P is so in
    heard_asked e before now writes asked new whole serves.owed.0

pub served_unwritten : (e : Endpoint) (i : Inputs) (before now : Reads) (writes writes_now : Writes) (notes : Notes) (had have : List Receipt) (answer : Served)
    (asked : ConsoleRequest) → IsNew before writes → now.whole ≡ before.whole → IsServed e i before now writes writes_now notes had have answer → answer ≡ served.Console asked
    → IsUnwritten now writes_now
served_unwritten e i before now writes writes_now notes had have answer asked new whole so is =
    let P : Served → Type 0 = λ given. IsServed e i before now writes writes_now notes had have given in
    let serves : P (served.Console asked) = subst P is so in
    still_unwritten before now writes writes_now serves.bytes new whole serves.owed.3 serves.wrote

-- an operator's request whose word is that
pub asked_to_stop : (me console : List ℕ) (reads : Reads) (asked : ConsoleRequest) → WasAsked me console reads asked → asked.word ≡ Stop → WasAskedToStop me console reads
asked_to_stop me console reads asked was stop = record { asked = asked; stop = stop; was = was }

same_Some : {X : Type 0} (x y : X) → Some x ≡ Some y → x ≡ y
same_Some x y e = cc

-- a reply was written, or a front of it where a write failed
pub replied_with : {X E : Type 0} (reads : Reads) (before now : Writes) (reply : List ℕ) (r : Result X E) → IsUnwritten reads before → OnOk r (Wrote before now reply)
    → OnErr r (WroteShort before now reply) → OnErr r (WriteFails before now) → WasReplied reads now reply
replied_with reads before now reply (Ok x) untold wrote short fails = λ all is written there.
    let same : written ≡ reply = same_Some written reply (sym there ∙ wrote [] (untold all is)) in
    let P : List ℕ → Type 0 = λ xs. xs ≡ take (length xs) reply in
    (subst P (sym same) (sym (take-length reply)), λ none. same)
replied_with reads before now reply (Err e) untold wrote short fails = λ all is written there.
    let front : List ℕ = short.0 in
    let rest : List ℕ = short.1 in
    let cut : reply ≡ front ++ rest = short.2 in
    let same : written ≡ front = same_Some written front (sym there ∙ short.4 [] (untold all is)) in
    let P : List ℕ → Type 0 = λ xs. xs ≡ take (length xs) reply in
    let begins : take (length front) reply ≡ front = ap (λ xs. take (length front) xs) cut ∙ take-append_seam front rest in
    (subst P (sym same) (sym begins), λ none. absurd (let rose : before.faults < now.faults = fails (omega (arith, none)) in omega (arith, none, rose)))
