-- The response that spells a reply.
use Rattle.std.specs.Prelude.{◌≡◌, ℕ, ◌<◌, ◌^◌, ◌⊎◌, List, [], ◌∷◌, Option, Some, None, Ok, decimal, IsSome}
use Rattle.lang_core.specs.declared.ids.RequestId.{RequestId}
use Rattle.lang_core.specs.declared.request.Response.{Response}
use Rattle.http_front.specs.Table.{aire_headers}
use Rattle.http_front.specs.declared.header.AireHeader.{AireHeader}
use Rattle.http_front.specs.declared.header.AireHeader.TheVariants as headers
use Rattle.http_front.specs.declared.message.WireResponse.{WireResponse}
use Rattle.peer_seal.specs.Seal.{seal_digits}
use Rattle.repair_messages.specs.declared.messages.Ack.{Ack}
use Rattle.repair_messages.specs.declared.messages.AnswerMessage.{AnswerMessage}
use Rattle.repair_messages.specs.declared.messages.Confirm.{Confirm}
use Rattle.request_names.specs.Ids.{id_text}
use Rattle.wire_fields.specs.Heads.{Field, with_fields}
use Rattle.wire_fields.specs.Words.{lone_status, numbered_status, refusal_status, refusal_text}
use Rattle.wire_replies.specs.Reading.{replied, sealed_bytes}
use Rattle.wire_replies.specs.declared.kinds.Asking.{Asking}
use Rattle.wire_replies.specs.declared.kinds.Asking.TheVariants as asked
use Rattle.wire_replies.specs.declared.replies.Outgoing.{Outgoing}
use Rattle.wire_replies.specs.declared.replies.Outgoing.TheVariants as replies

-- ---- fields

-- the services between which it goes
abbrev pub side_fields : List ℕ → List ℕ → List Field
side_fields me peer = (headers.From, me) ∷ (headers.Dest, peer) ∷ []

abbrev pub id_field : AireHeader → List ℕ → ℕ → Field
id_field header service number = (header, id_text service number)

abbrev pub number_field : AireHeader → ℕ → Field
number_field header number = (header, decimal number)

abbrev pub call_fields : Option AnswerMessage → List Field
call_fields None = []
call_fields (Some answer) =
    id_field headers.ResponseId answer.caller answer.number ∷ number_field headers.Version answer.version
    ∷ number_field headers.AnswerVersion answer.answer_version ∷ []

abbrev pub ack_fields : Ack → List Field
ack_fields ack = id_field headers.ResponseId ack.caller ack.number ∷ number_field headers.Version ack.version ∷ []

abbrev pub confirm_fields : Confirm → List Field
confirm_fields confirm =
    id_field headers.ResponseId confirm.caller confirm.number ∷ number_field headers.AnswerVersion confirm.answer_version ∷ []

-- the fields that tell what is replied
abbrev pub reply_fields : Outgoing → List Field
reply_fields (replies.Answered id answer response) = id_field headers.RequestId id.service id.number ∷ call_fields answer
reply_fields (replies.Ack ack) = ack_fields ack
reply_fields (replies.Confirm confirm) = confirm_fields confirm
reply_fields (replies.Refused word number) = (headers.Refused, refusal_text word number) ∷ []

-- ---- responses

abbrev pub reply_status : Outgoing → ℕ
reply_status (replies.Answered id answer response) = response.status
reply_status (replies.Ack ack) = 200
reply_status (replies.Confirm confirm) = 200
reply_status (replies.Refused word number) = refusal_status word

abbrev pub reply_body : Outgoing → List ℕ
reply_body (replies.Answered id answer response) = response.body
reply_body (replies.Ack ack) = []
reply_body (replies.Confirm confirm) = []
reply_body (replies.Refused word number) = []

-- a reply with these fields before those that tell it
abbrev pub unsealed : List Field → Outgoing → WireResponse
unsealed fields reply = record {
  status = reply_status reply;
  head = with_fields (with_fields [] fields) (reply_fields reply);
  body = reply_body reply;
}

-- with one field more: the seal of all fields of the table that it has
abbrev pub with_seal : List ℕ → WireResponse → WireResponse
with_seal secret response = record {
  status = response.status;
  head = with_fields response.head ((headers.Seal, seal_digits secret (sealed_bytes response aire_headers)) ∷ []);
  body = response.body;
}

abbrev pub sealed_reply : List ℕ → List ℕ → Outgoing → List ℕ → WireResponse
sealed_reply me peer reply secret = with_seal secret (unsealed (side_fields me peer) reply)

-- a reply to a peer, or, unsealed, to another client
abbrev pub written : List ℕ → Option (List ℕ) → Outgoing → List ℕ → WireResponse
written me None reply secret = unsealed [] reply
written me (Some peer) reply secret = sealed_reply me peer reply secret

-- ---- conditions

-- the reply may go from this service there
abbrev pub IsFor : List ℕ → Option (List ℕ) → Outgoing → Type 0
IsFor me to (replies.Answered id None response) = to ≡ None
IsFor me to (replies.Answered id (Some answer) response) = (answer.callee ≡ me) × (to ≡ Some answer.caller)
IsFor me to (replies.Ack ack) = (ack.dest ≡ me) × (to ≡ Some ack.caller)
IsFor me to (replies.Confirm confirm) = (confirm.caller ≡ me) × (to ≡ Some confirm.callee)
IsFor me to (replies.Refused word number) = Unit {0}

-- the reply may answer that
abbrev pub Answers : Asking → Outgoing → Type 0
Answers asking (replies.Answered id answer response) = (asking ≡ asked.Call) ⊎ (asking ≡ asked.Fetch)
Answers asking (replies.Ack ack) = asking ≡ asked.Set
Answers asking (replies.Confirm confirm) = asking ≡ asked.Token
Answers asking (replies.Refused word number) = Unit {0}

abbrev pub IsLiveAnswer : RequestId → Option AnswerMessage → Response → Type 0
IsLiveAnswer id None response = ⊥
IsLiveAnswer id (Some answer) response =
    (0 < answer.id) × (0 < answer.number) × (answer.who ≡ answer.callee) × (answer.response ≡ response)
    × (id.service ≡ answer.callee) × (id.number ≡ answer.id)

-- each part has a spelling of its own: ids count from 1, a live answer says each thing once, and a refusal's word is one of
-- the table, whose number is 0 where the word has none
abbrev pub IsSpelt : Outgoing → Type 0
IsSpelt (replies.Answered id answer response) = IsLiveAnswer id answer response
IsSpelt (replies.Ack ack) = 0 < ack.number
IsSpelt (replies.Confirm confirm) = 0 < confirm.number
IsSpelt (replies.Refused word number) = (IsSome (lone_status word) × (number ≡ 0)) ⊎ IsSome (numbered_status word)

-- what is written, who asked reads back
abbrev pub ReadsBack : List ℕ → List ℕ → List ℕ → Outgoing → WireResponse → Type 0
ReadsBack me peer secret reply response =
    IsSpelt reply → (asking : Asking) → Answers asking reply → replied peer me secret asking response ≡ Ok reply

-- its numbers are of 64 bits
abbrev pub AreNumbers : Outgoing → Type 0
AreNumbers (replies.Answered id None response) = Unit {0}
AreNumbers (replies.Answered id (Some answer) response) =
    (answer.id < 2 ^ 64) × (answer.number < 2 ^ 64) × (answer.version < 2 ^ 64) × (answer.answer_version < 2 ^ 64)
AreNumbers (replies.Ack ack) = (ack.number < 2 ^ 64) × (ack.version < 2 ^ 64)
AreNumbers (replies.Confirm confirm) = (confirm.number < 2 ^ 64) × (confirm.answer_version < 2 ^ 64)
AreNumbers (replies.Refused word number) = number < 2 ^ 64
