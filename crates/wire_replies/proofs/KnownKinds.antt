-- A reply is never refused for its kind.
use Rattle.std.proofs.Common.{◌≡◌, ℕ, Bool, true, false, ◌&&◌, List, [], ◌∷◌, Option, Some, None, Err, if◌then◌else◌, refl}
use Rattle.lang_base.specs.Texts.{same_text}
use Rattle.http_header.specs.FieldValue.{FieldValue}
use Rattle.http_header.specs.HeaderMap.{Entries, get_all}
use Rattle.http_header.specs.Token.{lowercase}
use Rattle.http_front.specs.Table.{spelling}
use Rattle.http_front.specs.declared.header.AireHeader.{AireHeader}
use Rattle.http_front.specs.declared.header.AireHeader.TheVariants as headers
use Rattle.http_front.specs.declared.message.WireResponse.{WireResponse}
use Rattle.peer_seal.specs.Seal.{seal_digits}
use Rattle.wire_fields.specs.Fits.{dest_refusal, service_in, side_refusal}
use Rattle.wire_fields.specs.Rows.{field_refusal, first_of, first_refusal, is_spelt, seal_header, text_at, values_refusal}
use Rattle.wire_fields.specs.declared.refused.WireRefused.{WireRefused}
use Rattle.wire_fields.specs.declared.refused.WireRefused.TheVariants.{NoMemory, BadHeader, MissingHeader, UnknownKind, Seal}
use Rattle.wire_replies.specs.Kinds.{reply_headers}
use Rattle.wire_replies.specs.Reading.{ids_refusal, reply_in, reply_of, reply_refusal, reply_seal_refusal, sealed_bytes, unless_refused}
use Rattle.wire_replies.specs.declared.kinds.ReplyKind.{ReplyKind}
use Rattle.wire_replies.specs.declared.kinds.ReplyKind.TheVariants as kinds
use Rattle.wire_replies.specs.declared.replies.Outgoing.{Outgoing}

abbrev for_kind : Option WireRefused → Bool
for_kind None = false
for_kind (Some NoMemory) = false
for_kind (Some (MissingHeader header)) = false
for_kind (Some (BadHeader header)) = false
for_kind (Some UnknownKind) = true
for_kind (Some Seal) = false

neither : (a b : Option WireRefused) → for_kind a ≡ false → for_kind b ≡ false → for_kind (first_of a b) ≡ false
neither None b p q = q
neither (Some why) b p q = p

unless_bad : (header : AireHeader) (b : Bool) → for_kind (if b then None else Some (BadHeader header)) ≡ false
unless_bad header true = refl
unless_bad header false = refl

if_missing : (header : AireHeader) (b : Bool) → for_kind (if b then Some (MissingHeader header) else None) ≡ false
if_missing header true = refl
if_missing header false = refl

unless_sealed : (b : Bool) → for_kind (if b then None else Some Seal) ≡ false
unless_sealed true = refl
unless_sealed false = refl

by_values : (wanted : Bool) (header : AireHeader) (values : List FieldValue) → for_kind (values_refusal wanted header values) ≡ false
by_values wanted header [] = if_missing header wanted
by_values wanted header (value ∷ []) = unless_bad header (is_spelt header value.bytes)
by_values wanted header (value ∷ other ∷ values) = refl

by_fields : (head : Entries FieldValue) (wanted : Bool) (fields : List AireHeader) → for_kind (first_refusal head wanted fields) ≡ false
by_fields head wanted [] = refl
by_fields head wanted (header ∷ others) =
    neither (field_refusal head wanted header) (first_refusal head wanted others)
    (by_values wanted header (get_all head (lowercase (spelling header)))) (by_fields head wanted others)

by_side : (head : Entries FieldValue) (id side : AireHeader) → for_kind (side_refusal head id side) ≡ false
by_side head id side = unless_bad id (same_text (service_in (text_at head id)) (text_at head side))

by_ids : (kind : ReplyKind) (head : Entries FieldValue) → for_kind (ids_refusal kind head) ≡ false
by_ids kinds.Live head =
    neither (side_refusal head headers.RequestId headers.From) (side_refusal head headers.ResponseId headers.Dest)
    (by_side head headers.RequestId headers.From) (by_side head headers.ResponseId headers.Dest)
by_ids kinds.Ack head = by_side head headers.ResponseId headers.Dest
by_ids kinds.Confirm head = by_side head headers.ResponseId headers.From
by_ids kinds.Refusal head = refl

refused : (me peer secret : List ℕ) (kind : ReplyKind) (response : WireResponse) → for_kind (reply_refusal me peer secret kind response) ≡ false
refused me peer secret kind response =
    let head = response.head in
    neither
    (first_of (first_refusal head true (reply_headers kind))
    (first_of (first_refusal head true seal_header) (first_of (dest_refusal me head) (ids_refusal kind head))))
    (reply_seal_refusal peer secret kind response)
    (neither (first_refusal head true (reply_headers kind))
    (first_of (first_refusal head true seal_header) (first_of (dest_refusal me head) (ids_refusal kind head)))
    (by_fields head true (reply_headers kind))
    (neither (first_refusal head true seal_header) (first_of (dest_refusal me head) (ids_refusal kind head)) (by_fields head true seal_header)
    (neither (dest_refusal me head) (ids_refusal kind head)
    (unless_bad headers.Dest (same_text (text_at head headers.Dest) me)) (by_ids kind head))))
    (unless_sealed
    (same_text (text_at head headers.From) peer
    && same_text (text_at head headers.Seal) (seal_digits secret (sealed_bytes response (reply_headers kind)))))

never : (refusal : Option WireRefused) (reply : Outgoing) → for_kind refusal ≡ false → unless_refused refusal reply ≡ Err UnknownKind → ⊥
never None reply known is = cc
never (Some NoMemory) reply known is = cc
never (Some (MissingHeader header)) reply known is = cc
never (Some (BadHeader header)) reply known is = cc
never (Some UnknownKind) reply known is = cc
never (Some Seal) reply known is = cc

pub of_known_kind : (me peer secret : List ℕ) (kind : ReplyKind) (response : WireResponse)
    → reply_of me peer secret kind response ≡ Err UnknownKind → ⊥
of_known_kind me peer secret kind response = never (reply_refusal me peer secret kind response) (reply_in kind response) (refused me peer secret kind response)
