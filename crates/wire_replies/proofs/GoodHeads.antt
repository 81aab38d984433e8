-- Where nothing is refused, the services of a reply have names.
use Rattle.std.proofs.Common.{◌≡◌, ℕ, true, List, [], ◌∷◌, None}
use Rattle.http_header.specs.FieldValue.{FieldValue}
use Rattle.http_header.specs.HeaderMap.{Entries}
use Rattle.http_front.specs.declared.header.AireHeader.TheVariants as headers
use Rattle.http_front.specs.declared.message.WireResponse.{WireResponse}
use Rattle.wire_fields.specs.Fits.{AreNamed}
use Rattle.wire_fields.specs.Rows.{first_refusal}
use Rattle.wire_fields.proofs.FormLemmas.{named_first, neither}
use Rattle.wire_replies.specs.Kinds.{reply_headers}
use Rattle.wire_replies.specs.Reading.{reply_refusal}
use Rattle.wire_replies.specs.declared.kinds.ReplyKind.{ReplyKind}
use Rattle.wire_replies.specs.declared.kinds.ReplyKind.TheVariants as kinds

named : (head : Entries FieldValue) (kind : ReplyKind) → first_refusal head true (reply_headers kind) ≡ None → AreNamed head
named head kinds.Live none = named_first head (headers.RequestId ∷ headers.ResponseId ∷ headers.Version ∷ headers.AnswerVersion ∷ []) none
named head kinds.Ack none = named_first head (headers.ResponseId ∷ headers.Version ∷ []) none
named head kinds.Confirm none = named_first head (headers.ResponseId ∷ headers.AnswerVersion ∷ []) none
named head kinds.Refusal none = named_first head (headers.Refused ∷ []) none

pub reply_is_good : (me peer secret : List ℕ) (kind : ReplyKind) (response : WireResponse) → reply_refusal me peer secret kind response ≡ None → AreNamed response.head
reply_is_good me peer secret kind response none =
    named response.head kind (neither (first_refusal response.head true (reply_headers kind)) _ (neither _ _ none).0).0
