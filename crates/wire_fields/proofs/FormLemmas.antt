-- What is known of a head none of whose fields is refused.
use Rattle.std.proofs.Common.{◌≡◌, Bool, true, false, ◌&&◌, cond, List, [], ◌∷◌, ◌++◌, Option, Some, None, refl}
use Rattle.std.specs.List.{slice_get}
use Rattle.std.specs.Str.{is_utf8}
use Rattle.std.proofs.lemmas.Bool.{and_parts}
use Rattle.http_header.specs.FieldValue.{FieldValue}
use Rattle.http_header.specs.HeaderMap.{Entries, get_all}
use Rattle.http_header.specs.Token.{lowercase}
use Rattle.http_front.specs.Table.{spelling}
use Rattle.http_front.specs.declared.header.AireHeader.{AireHeader}
use Rattle.http_front.specs.declared.header.AireHeader.TheVariants as headers
use Rattle.wire_fields.specs.Fits.{AreNamed}
use Rattle.wire_fields.specs.Forms.{has_form}
use Rattle.wire_fields.specs.Rows.{field_refusal, first_of, first_refusal, is_spelt, text_at, text_or_none, values_refusal}
use Rattle.wire_fields.specs.declared.refused.WireRefused.{WireRefused}
use Rattle.wire_fields.specs.declared.refused.WireRefused.TheVariants.{BadHeader}

pub neither : (first second : Option WireRefused) → first_of first second ≡ None → (first ≡ None) × (second ≡ None)
neither None second none = (refl, none)
neither (Some why) second none = cc

spelt : (header : AireHeader) (decided : Bool) → cond decided None (Some (BadHeader header)) ≡ None → decided ≡ true
spelt header true none = refl
spelt header false none = cc

good_values : (header : AireHeader) (values : List FieldValue) → values_refusal true header values ≡ None → has_form header (text_or_none (slice_get values 0)) ≡ true
good_values header [] none = cc
good_values header (value ∷ []) none =
    let both = and_parts (is_utf8 value.bytes) (has_form header value.bytes) (spelt header (is_spelt header value.bytes) none) in
    rw both.0 both.1
good_values header (value ∷ other ∷ values) none = cc

good_field : (head : Entries FieldValue) (header : AireHeader) → field_refusal head true header ≡ None → has_form header (text_at head header) ≡ true
good_field head header none = good_values header (get_all head (lowercase (spelling header))) none

-- the first two fields name the services
pub named_first : (head : Entries FieldValue) (others : List AireHeader) → first_refusal head true (headers.From ∷ headers.Dest ∷ others) ≡ None → AreNamed head
named_first head others none =
    let from = neither (field_refusal head true headers.From) (first_refusal head true (headers.Dest ∷ others)) none in
    let dest = neither (field_refusal head true headers.Dest) (first_refusal head true others) from.1 in
    (good_field head headers.From from.0, good_field head headers.Dest dest.0)

-- the last field has its form
pub good_last : (head : Entries FieldValue) (others : List AireHeader) (header : AireHeader) → first_refusal head true (others ++ header ∷ []) ≡ None
    → has_form header (text_at head header) ≡ true
good_last head [] header none = good_field head header (neither (field_refusal head true header) None none).0
good_last head (other ∷ others) header none =
    good_last head others header (neither (field_refusal head true other) (first_refusal head true (others ++ header ∷ [])) none).1
