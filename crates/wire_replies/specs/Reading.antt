-- Which reply a response spells, or the first refusal.
use Rattle.std.specs.Prelude.{ℕ, true, ◌&&◌, List, [], Option, Some, None, Result, Ok, Err, codes, if◌then◌else◌}
use Rattle.lang_core.specs.declared.ids.RequestId.{RequestId}
use Rattle.lang_core.specs.declared.request.Response.{Response}
use Rattle.lang_base.specs.Texts.{same_text}
use Rattle.http_header.specs.FieldValue.{FieldValue}
use Rattle.http_header.specs.HeaderMap.{Entries, get}
use Rattle.http_front.specs.declared.header.AireHeader.{AireHeader}
use Rattle.http_front.specs.declared.header.AireHeader.TheVariants as headers
use Rattle.http_front.specs.declared.message.WireResponse.{WireResponse}
use Rattle.peer_seal.specs.Seal.{seal_digits}
use Rattle.repair_messages.specs.declared.messages.Ack.{Ack}
use Rattle.repair_messages.specs.declared.messages.AnswerMessage.{AnswerMessage}
use Rattle.repair_messages.specs.declared.messages.Confirm.{Confirm}
use Rattle.wire_fields.specs.Fits.{dest_refusal, number_in, side_refusal, version_at}
use Rattle.wire_fields.specs.Rows.{first_of, first_refusal, seal_header, text_at}
use Rattle.wire_fields.specs.Sealed.{sealed_response}
use Rattle.wire_fields.specs.Words.{refusal_of}
use Rattle.wire_fields.specs.declared.refused.WireRefused.{WireRefused}
use Rattle.wire_fields.specs.declared.refused.WireRefused.TheVariants.{Seal}
use Rattle.wire_replies.specs.Kinds.{reply_headers, reply_kind}
use Rattle.wire_replies.specs.declared.kinds.Asking.{Asking}
use Rattle.wire_replies.specs.declared.kinds.ReplyKind.{ReplyKind}
use Rattle.wire_replies.specs.declared.kinds.ReplyKind.TheVariants as kinds
use Rattle.wire_replies.specs.declared.replies.Outgoing.{Outgoing}
use Rattle.wire_replies.specs.declared.replies.Outgoing.TheVariants as replies

-- ---- refusals

-- who was called sends live replies and acknowledgements, who called sends confirmations
abbrev pub ids_refusal : ReplyKind → Entries FieldValue → Option WireRefused
ids_refusal kinds.Live head = first_of (side_refusal head headers.RequestId headers.From) (side_refusal head headers.ResponseId headers.Dest)
ids_refusal kinds.Ack head = side_refusal head headers.ResponseId headers.Dest
ids_refusal kinds.Confirm head = side_refusal head headers.ResponseId headers.From
ids_refusal kinds.Refusal head = None

abbrev pub reply_head_refusal : List ℕ → ReplyKind → Entries FieldValue → Option WireRefused
reply_head_refusal me kind head =
    first_of (first_refusal head true (reply_headers kind))
    (first_of (first_refusal head true seal_header)
    (first_of (dest_refusal me head) (ids_refusal kind head)))

abbrev pub sealed_bytes : WireResponse → List AireHeader → List ℕ
sealed_bytes response fields = sealed_response response.status response.head fields response.body

-- the reply is this peer's, and sealed with this secret
abbrev pub reply_seal_refusal : List ℕ → List ℕ → ReplyKind → WireResponse → Option WireRefused
reply_seal_refusal peer secret kind response =
    if same_text (text_at response.head headers.From) peer
    && same_text (text_at response.head headers.Seal) (seal_digits secret (sealed_bytes response (reply_headers kind)))
    then None else Some Seal

abbrev pub reply_refusal : List ℕ → List ℕ → List ℕ → ReplyKind → WireResponse → Option WireRefused
reply_refusal me peer secret kind response =
    first_of (reply_head_refusal me kind response.head) (reply_seal_refusal peer secret kind response)

-- ---- replies

abbrev pub response_in : WireResponse → Response
response_in response = record { status = response.status; body = response.body }

abbrev pub request_id_in : WireResponse → RequestId
request_id_in response = record {
  service = text_at response.head headers.From;
  number = number_in (text_at response.head headers.RequestId);
}

abbrev pub live_answer : WireResponse → AnswerMessage
live_answer response = record {
  caller = text_at response.head headers.Dest;
  callee = text_at response.head headers.From;
  id = number_in (text_at response.head headers.RequestId);
  number = number_in (text_at response.head headers.ResponseId);
  answer_version = version_at response.head headers.AnswerVersion;
  version = version_at response.head headers.Version;
  response = response_in response;
  who = text_at response.head headers.From;
}

abbrev pub ack_in : Entries FieldValue → Ack
ack_in head = record {
  caller = text_at head headers.Dest;
  dest = text_at head headers.From;
  number = number_in (text_at head headers.ResponseId);
  version = version_at head headers.Version;
}

abbrev pub confirm_in : Entries FieldValue → Confirm
confirm_in head = record {
  caller = text_at head headers.From;
  callee = text_at head headers.Dest;
  number = number_in (text_at head headers.ResponseId);
  answer_version = version_at head headers.AnswerVersion;
}

abbrev pub refusal_or_none : Option (List ℕ × ℕ) → Outgoing
refusal_or_none None = replies.Refused [] 0
refusal_or_none (Some refusal) = replies.Refused refusal.0 refusal.1

-- what a response of a kind says
abbrev pub reply_in : ReplyKind → WireResponse → Outgoing
reply_in kinds.Live response = replies.Answered (request_id_in response) (Some (live_answer response)) (response_in response)
reply_in kinds.Ack response = replies.Ack (ack_in response.head)
reply_in kinds.Confirm response = replies.Confirm (confirm_in response.head)
reply_in kinds.Refusal response = refusal_or_none (refusal_of (text_at response.head headers.Refused))

abbrev pub unless_refused : Option WireRefused → Outgoing → Result Outgoing WireRefused
unless_refused None reply = Ok reply
unless_refused (Some why) reply = Err why

abbrev pub reply_of : List ℕ → List ℕ → List ℕ → ReplyKind → WireResponse → Result Outgoing WireRefused
reply_of me peer secret kind response = unless_refused (reply_refusal me peer secret kind response) (reply_in kind response)

-- what the peer of this name and secret replies to what the service of this name asked
abbrev pub replied : List ℕ → List ℕ → List ℕ → Asking → WireResponse → Result Outgoing WireRefused
replied me peer secret asking response =
    reply_of me peer secret (reply_kind asking (get response.head (codes "aire-refused"))) response
