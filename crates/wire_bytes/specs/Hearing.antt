-- What a service hears on a connection, a message or why there is none; and what a peer replies to it.
use Rattle.std.specs.Prelude.{◌≡◌, ℕ, Bool, true, false, List, [], ◌++◌, Some, Result, Ok, Err}
use Rattle.std.specs.Option.{ForSome}
use Rattle.lang_base.specs.Memory.{lacks}
use Rattle.lang_tree.specs.Forms.{is_path}
use Rattle.io_edge.specs.Edge.{Reads}
use Rattle.http_front.specs.Answers.{interrupts}
use Rattle.http_front.specs.Reading.{SpellsRequest, SpellsResponse}
use Rattle.http_front.specs.declared.message.FrontRefused.{FrontRefused}
use Rattle.http_front.specs.declared.message.WireRequest.{WireRequest}
use Rattle.http_front.specs.declared.message.WireResponse.{WireResponse}
use Rattle.wire_fields.specs.Fits.{is_memory, lacks_memory}
use Rattle.wire_fields.specs.Secrets.{Secrets}
use Rattle.wire_replies.specs.Reading.{replied}
use Rattle.wire_replies.specs.declared.kinds.Asking.{Asking}
use Rattle.aire_wire.specs.Incoming.{incoming}
use Rattle.aire_wire.specs.Known.{IsKnown}
use Rattle.aire_wire.specs.declared.incoming.Incoming.{Incoming}
use Rattle.wire_bytes.specs.Saying.{Says, SaysNothing}
use Rattle.wire_bytes.specs.declared.hearing.Replied.{Replied}
use Rattle.wire_bytes.specs.declared.hearing.Unheard.{Unheard}
use Rattle.wire_bytes.specs.declared.hearing.Unheard.TheVariants as unheard

-- the bytes say this message, or for this reason none, and what follows is left
abbrev pub IsHeard : List ℕ → Secrets → List ℕ → List ℕ → Result Incoming Unheard → List ℕ → Type 0
IsHeard me peers console bytes (Ok message) left = Says me peers console bytes message left
IsHeard me peers console bytes (Err (unheard.Front why)) left = SpellsRequest bytes (Err why) left
IsHeard me peers console bytes (Err (unheard.Wire why)) left = SaysNothing me peers console bytes why left

-- the reading was interrupted: for memory, or by the source
abbrev pub broke_off : Unheard → Bool
broke_off (unheard.Front why) = interrupts why
broke_off (unheard.Wire why) = is_memory why

-- of a source that tells its bytes
abbrev pub IsHeardFrom : List ℕ → Secrets → List ℕ → Reads → Reads → Result Incoming Unheard → Type 0
IsHeardFrom me peers console before now answer =
    lacks broke_off answer ≡ false → ForSome before.left (λ bytes. (rest : List ℕ) × (now.left ≡ Some rest) × IsHeard me peers console bytes answer rest)

-- these bytes say this message, no byte is left, and it is known to be what such a message is, and to go to a path
abbrev pub SaysKnown : List ℕ → Secrets → List ℕ → List ℕ → Incoming → Type 0
SaysKnown me peers console taken message =
    (request : WireRequest) × SpellsRequest taken (Ok request) [] × (incoming me peers console request ≡ Ok message)
    × IsKnown me peers console request message × (is_path request.path ≡ true)

-- what was taken says it alone
abbrev pub TakenSays : List ℕ → Secrets → List ℕ → Reads → Reads → Incoming → Type 0
TakenSays me peers console before now message =
    ForSome before.left (λ bytes. (taken rest : List ℕ) → now.left ≡ Some rest → bytes ≡ taken ++ rest → SaysKnown me peers console taken message)

-- it is known to be what such a message is, by whatever request it came
abbrev pub IsKnownMessage : List ℕ → Secrets → List ℕ → Incoming → Type 0
IsKnownMessage me peers console message = (request : WireRequest) × IsKnown me peers console request message

-- ---- replies

-- the bytes are a response of this status, which replies this, and what follows is left; or for this reason none
abbrev pub IsReplied : List ℕ → List ℕ → List ℕ → Asking → List ℕ → Result Replied FrontRefused → List ℕ → Type 0
IsReplied me peer secret asking bytes (Ok back) left =
    (response : WireResponse) × SpellsResponse bytes (Ok response) left × (back.status ≡ response.status)
    × (back.reply ≡ replied me peer secret asking response)
IsReplied me peer secret asking bytes (Err why) left = SpellsResponse bytes (Err why) left

-- the reading was interrupted
abbrev pub reply_broke_off : Result Replied FrontRefused → Bool
reply_broke_off (Ok back) = lacks_memory back.reply
reply_broke_off (Err why) = interrupts why

-- of a source that tells its bytes
abbrev pub IsRepliedFrom : List ℕ → List ℕ → List ℕ → Asking → Reads → Reads → Result Replied FrontRefused → Type 0
IsRepliedFrom me peer secret asking before now answer =
    reply_broke_off answer ≡ false
    → ForSome before.left (λ bytes. (rest : List ℕ) × (now.left ≡ Some rest) × IsReplied me peer secret asking bytes answer rest)
