-- What bytes say to a service, and what they reply.
use Rattle.std.specs.Prelude.{◌≡◌, ℕ, List, Ok, Err}
use Rattle.http_front.specs.Reading.{SpellsRequest, SpellsResponse}
use Rattle.http_front.specs.declared.message.WireRequest.{WireRequest}
use Rattle.http_front.specs.declared.message.WireResponse.{WireResponse}
use Rattle.wire_fields.specs.Secrets.{Secrets}
use Rattle.wire_fields.specs.declared.refused.WireRefused.{WireRefused}
use Rattle.wire_replies.specs.Reading.{replied}
use Rattle.wire_replies.specs.declared.kinds.Asking.{Asking}
use Rattle.wire_replies.specs.declared.replies.Outgoing.{Outgoing}
use Rattle.aire_wire.specs.Incoming.{incoming}
use Rattle.aire_wire.specs.declared.incoming.Incoming.{Incoming}

-- ---- to a service of this name, whose peers these are and whose console has this secret

-- the bytes say this message, and what follows it is left
abbrev pub Says : List ℕ → Secrets → List ℕ → List ℕ → Incoming → List ℕ → Type 0
Says me peers console bytes message left =
    (request : WireRequest) × SpellsRequest bytes (Ok request) left × (incoming me peers console request ≡ Ok message)

-- they are a request, but for this reason no message to it
abbrev pub SaysNothing : List ℕ → Secrets → List ℕ → List ℕ → WireRefused → List ℕ → Type 0
SaysNothing me peers console bytes why left =
    (request : WireRequest) × SpellsRequest bytes (Ok request) left × (incoming me peers console request ≡ Err why)

-- ---- to a service of this name, which asked a peer that seals with this secret

-- the bytes reply this, and what follows it is left
abbrev pub Replies : List ℕ → List ℕ → List ℕ → Asking → List ℕ → Outgoing → List ℕ → Type 0
Replies me peer secret asking bytes reply left =
    (response : WireResponse) × SpellsResponse bytes (Ok response) left × (replied me peer secret asking response ≡ Ok reply)

-- they are a response, but for this reason no reply
abbrev pub RepliesNothing : List ℕ → List ℕ → List ℕ → Asking → List ℕ → WireRefused → List ℕ → Type 0
RepliesNothing me peer secret asking bytes why left =
    (response : WireResponse) × SpellsResponse bytes (Ok response) left × (replied me peer secret asking response ≡ Err why)
