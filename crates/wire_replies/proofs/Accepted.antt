-- A reply whose fields are those of its kind, fit and are sealed isn't refused.
use Rattle.std.proofs.Common.{◌≡◌, ℕ, ◌<◌, ◌^◌, Bool, true, ◌&&◌, List, [], ◌∷◌, Option, Some, None, if◌then◌else◌, refl, ap, ◌∙◌}
use Rattle.std.specs.Str.{is_utf8}
use Rattle.lang_core.specs.Names.{is_name}
use Rattle.lang_base.specs.Texts.{same_text}
use Rattle.http_header.specs.FieldValue.{FieldValue, plain_value}
use Rattle.http_header.specs.HeaderMap.{Entries, get_all}
use Rattle.http_header.specs.Token.{lowercase}
use Rattle.http_front.specs.Table.{spelling}
use Rattle.http_front.specs.declared.header.AireHeader.{AireHeader}
use Rattle.http_front.specs.declared.header.AireHeader.TheVariants as headers
use Rattle.http_front.specs.declared.message.WireResponse.{WireResponse}
use Rattle.peer_seal.specs.Seal.{seal_digits}
use Rattle.request_names.specs.Ids.{id_text}
use Rattle.wire_fields.specs.Fits.{dest_refusal, number_in, service_in, side_refusal}
use Rattle.wire_fields.specs.Forms.{has_form}
use Rattle.wire_fields.specs.Rows.{field_refusal, first_of, first_refusal, is_spelt, seal_header, text_at}
use Rattle.wire_fields.specs.declared.refused.WireRefused.{WireRefused}
use Rattle.wire_fields.specs.declared.refused.WireRefused.TheVariants as refused
use Rattle.wire_fields.proofs.SealLemmas.{text_same}
use Rattle.wire_fields.proofs.SpeltLemmas.{id_back}
use Rattle.wire_fields.proofs.Refusals.{fits}
use Rattle.wire_replies.specs.Kinds.{reply_headers}
use Rattle.wire_replies.specs.Reading.{ids_refusal, reply_refusal, reply_seal_refusal, sealed_bytes}
use Rattle.wire_replies.specs.declared.kinds.ReplyKind.{ReplyKind}
use Rattle.std.proofs.lemmas.Bool.{and_parts}

-- the head has this field once, with a text of its form
pub record IsField (head : Entries FieldValue) (header : AireHeader) (text : List ℕ) : Type 0 where
  pub there : get_all head (lowercase (spelling header)) ≡ plain_value text ∷ []
  pub spelt : is_spelt header text ≡ true

pub fine : (head : Entries FieldValue) (header : AireHeader) (text : List ℕ) → IsField head header text → field_refusal head true header ≡ None
fine head header text f = rw (f.there, f.spelt) refl

pub said : (head : Entries FieldValue) (header : AireHeader) (text : List ℕ) → IsField head header text → text_at head header ≡ text
said head header text f = rw (f.there, (and_parts (is_utf8 text) (has_form header text) f.spelt).0) refl

pub field_accepted : (head : Entries FieldValue) (header : AireHeader) (others : List AireHeader) (text : List ℕ) → IsField head header text
    → first_refusal head true others ≡ None → first_refusal head true (header ∷ others) ≡ None
field_accepted head header others text f rest = rw (fine head header text f, rest) refl

same_service : (left right name : List ℕ) → left ≡ name → right ≡ name → same_text left right ≡ true
same_service left right name l r = rw (l, r) (text_same name)

service_of_id : (name : List ℕ) (n : ℕ) → is_name name ≡ true → 0 < n → n < 2 ^ 64 → service_in (id_text name n) ≡ name
service_of_id name n is from_one small = rw (id_back name n is from_one small) refl

pub number_of_id : (name : List ℕ) (n : ℕ) → is_name name ≡ true → 0 < n → n < 2 ^ 64 → number_in (id_text name n) ≡ n
number_of_id name n is from_one small = rw (id_back name n is from_one small) refl

-- an id of the service that another field names
pub side_fits : (head : Entries FieldValue) (id side : AireHeader) (name : List ℕ) (n : ℕ) → is_name name ≡ true → 0 < n → n < 2 ^ 64
    → IsField head id (id_text name n) → IsField head side name → side_refusal head id side ≡ None
side_fits head id side name n is from_one small names sends =
    fits id (same_text (service_in (text_at head id)) (text_at head side))
    (same_service (service_in (text_at head id)) (text_at head side) name
    (ap service_in (said head id (id_text name n) names) ∙ service_of_id name n is from_one small)
    (said head side name sends))

dest_fits : (me : List ℕ) (head : Entries FieldValue) → IsField head headers.Dest me → dest_refusal me head ≡ None
dest_fits me head f = fits headers.Dest (same_text (text_at head headers.Dest) me) (same_service (text_at head headers.Dest) me me (said head headers.Dest me f) refl)

none_of_five : (a b c d e : Option WireRefused) → a ≡ None → b ≡ None → c ≡ None → d ≡ None → e ≡ None
    → first_of (first_of a (first_of b (first_of c d))) e ≡ None
none_of_five a b c d e p q r s t = rw (p, q, r, s, t) refl

unless_both : (a b : Bool) (why : WireRefused) → a ≡ true → b ≡ true → (if a && b then None else Some why) ≡ None
unless_both a b why p q = rw (p, q) refl

-- the head is one that comes from this service, and the seal is the response's
seal_fits : (me secret : List ℕ) (kind : ReplyKind) (response : WireResponse) → IsField response.head headers.From me
    → IsField response.head headers.Seal (seal_digits secret (sealed_bytes response (reply_headers kind)))
    → reply_seal_refusal me secret kind response ≡ None
seal_fits me secret kind response from seal =
    unless_both (same_text (text_at response.head headers.From) me)
    (same_text (text_at response.head headers.Seal) (seal_digits secret (sealed_bytes response (reply_headers kind)))) refused.Seal
    (same_service (text_at response.head headers.From) me me (said response.head headers.From me from) refl)
    (same_service (text_at response.head headers.Seal) (seal_digits secret (sealed_bytes response (reply_headers kind)))
    (seal_digits secret (sealed_bytes response (reply_headers kind)))
    (said response.head headers.Seal (seal_digits secret (sealed_bytes response (reply_headers kind))) seal) refl)

pub accepted : (me peer secret : List ℕ) (kind : ReplyKind) (response : WireResponse)
    → IsField response.head headers.From me → IsField response.head headers.Dest peer
    → IsField response.head headers.Seal (seal_digits secret (sealed_bytes response (reply_headers kind)))
    → first_refusal response.head true (reply_headers kind) ≡ None → ids_refusal kind response.head ≡ None
    → reply_refusal peer me secret kind response ≡ None
accepted me peer secret kind response from dest seal fields ids =
    none_of_five (first_refusal response.head true (reply_headers kind)) (first_refusal response.head true seal_header)
    (dest_refusal peer response.head) (ids_refusal kind response.head) (reply_seal_refusal me secret kind response)
    fields (field_accepted response.head headers.Seal [] (seal_digits secret (sealed_bytes response (reply_headers kind))) seal refl)
    (dest_fits peer response.head dest) ids (seal_fits me secret kind response from seal)
