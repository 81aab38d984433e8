-- Which kind of reply answers which kind of message, and the fields that it has.
use Rattle.std.specs.Prelude.{List, Option, Some, None}
use Rattle.http_header.specs.FieldValue.{FieldValue}
use Rattle.http_front.specs.declared.header.AireHeader.{AireHeader}
use Rattle.wire_fields.specs.Rows.{ack_headers, confirm_headers, live_reply_headers, refusal_headers}
use Rattle.wire_replies.specs.declared.kinds.Asking.{Asking}
use Rattle.wire_replies.specs.declared.kinds.Asking.TheVariants as asked
use Rattle.wire_replies.specs.declared.kinds.ReplyKind.{ReplyKind}
use Rattle.wire_replies.specs.declared.kinds.ReplyKind.TheVariants as kinds

-- what answers a message that isn't refused
abbrev pub answer_kind : Asking → ReplyKind
answer_kind asked.Call = kinds.Live
answer_kind asked.Set = kinds.Ack
answer_kind asked.Token = kinds.Confirm
answer_kind asked.Fetch = kinds.Live

-- a reply with a word of refusal is one, whatever was asked
abbrev pub reply_kind : Asking → Option FieldValue → ReplyKind
reply_kind asking None = answer_kind asking
reply_kind asking (Some word) = kinds.Refusal

-- those fields that it has between services, but its seal
abbrev pub reply_headers : ReplyKind → List AireHeader
reply_headers kinds.Live = live_reply_headers
reply_headers kinds.Ack = ack_headers
reply_headers kinds.Confirm = confirm_headers
reply_headers kinds.Refusal = refusal_headers
