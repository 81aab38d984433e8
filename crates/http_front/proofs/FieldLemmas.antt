-- Each field of a head that is read is one that a map takes, and a map of so many fields has room for more.
use Rattle.std.proofs.Common.{◌≡◌, ℕ, ◌+◌, ◌-◌, ◌<◌, ◌≤◌, Bool, true, false, cond, List, [], ◌∷◌, ◌++◌, get_or, map, reverse, take, drop, length, bytes_eq, refl, sym, subst, arith, IsTrue, length-append, length-drop}
use Rattle.std.specs.List.{All, list_all}
use Rattle.std.proofs.lemmas.Bool.{and_parts}
use Rattle.std.proofs.lemmas.List.{get_or-map, length-map, length-take}
use Rattle.std.proofs.lemmas.List.Elements.{All-map, All-weaker}
use Rattle.std.proofs.lemmas.List.Sums.{AllPass-from_list_all, list_all-from_AllPass, sum_by-cons}
use Rattle.httparse.specs.Grammar.{Field, IsField, is_ows, is_token_byte, is_value_byte, skip_ows, trim_ows}
use Rattle.httparse.specs.Spans.{AreFieldsAt, header_bytes, name_and_value, span_bytes}
use Rattle.httparse.specs.declared.spans.HeaderSpan.{HeaderSpan}
use Rattle.http_header.specs.FieldName.{IsFieldName}
use Rattle.http_header.specs.FieldValue.{FieldValue, IsFieldValue}
use Rattle.http_header.specs.HeaderMap.{Entries, append, value_count}
use Rattle.http_header.specs.Token.{is_token_byte as is_name_byte}
use Rattle.http_front.specs.Fields.{FitsMap, HoldsUpTo}
use Rattle.http_front.proofs.PassLemmas.{turned}

-- ---- fields

-- the two libraries mean the same bytes
name_byte : (b : ℕ) → IsTrue (is_token_byte b) → IsTrue (is_name_byte b)
unfolding is_token_byte is_name_byte
name_byte b is = is

skipped : (p : ℕ → Bool) (bytes : List ℕ) → list_all p bytes ≡ true → list_all p (skip_ows bytes) ≡ true
skipped p [] all = refl
skipped p (b ∷ bytes) all = by (is_ows b) (skipped p bytes (and_parts (p b) (list_all p bytes) all).1)
  where
    by : (space : Bool) → list_all p (skip_ows bytes) ≡ true → list_all p (cond space (skip_ows bytes) (b ∷ bytes)) ≡ true
    by true rest = rest
    by false rest = all

trimmed : (p : ℕ → Bool) (bytes : List ℕ) → list_all p bytes ≡ true → list_all p (trim_ows bytes) ≡ true
unfolding trim_ows
trimmed p bytes all =
    let front = skip_ows bytes in
    turned p (skip_ows (reverse front)) (skipped p (reverse front) (turned p front (skipped p bytes all)))

fits : (field : Field) → IsField field → FitsMap (name_and_value field)
fits field is = (
  (is.name.0, All-weaker _ _ name_byte field.name is.name.1),
  AllPass-from_list_all is_value_byte (trim_ows field.raw) (trimmed is_value_byte field.raw (list_all-from_AllPass is_value_byte field.raw is.raw)),
)

-- the fields that the parser found
pub found_fit : (bytes : List ℕ) (places : List HeaderSpan) (count : ℕ) (fields : List Field) → AreFieldsAt bytes places count fields → All IsField fields
    → All FitsMap (map (header_bytes bytes) (take count places))
found_fit bytes places count fields are all =
    subst (All FitsMap) (sym are) (All-map FitsMap name_and_value fields (All-weaker IsField (λ field. FitsMap (name_and_value field)) fits fields all))

-- the name and the value at one of these places
fits_at : (bytes : List ℕ) (places : List HeaderSpan) (at : ℕ) (d : HeaderSpan) → All FitsMap (map (header_bytes bytes) places) → at < length places
    → FitsMap (header_bytes bytes (get_or places at d))
fits_at bytes places at d all within =
    let there : at < length (map (header_bytes bytes) places) = omega (arith, within, length-map places (header_bytes bytes)) in
    subst FitsMap (get_or-map (header_bytes bytes) places at d (header_bytes bytes d) within) (all at (header_bytes bytes d) there)

shorter : (bytes : List ℕ) (start end : ℕ) → length (take (end - start) (drop start bytes)) ≤ length bytes
shorter bytes start end = omega (arith, length-take (end - start) (drop start bytes), length-drop start bytes)

pub named_at : (bytes : List ℕ) (places : List HeaderSpan) (at : ℕ) (d : HeaderSpan) (name : List ℕ) → All FitsMap (map (header_bytes bytes) places) → at < length places
    → length bytes ≤ 16384 → name ≡ span_bytes bytes (get_or places at d).name → IsFieldName name
named_at bytes places at d name all within short is =
    let span = (get_or places at d).name in
    subst IsFieldName (sym is) ((fits_at bytes places at d all within).0, omega (arith, short, shorter bytes span.start span.end))

pub valued_at : (bytes : List ℕ) (places : List HeaderSpan) (at : ℕ) (d : HeaderSpan) (value : List ℕ) → All FitsMap (map (header_bytes bytes) places) → at < length places
    → value ≡ span_bytes bytes (get_or places at d).value → IsFieldValue value
valued_at bytes places at d value all within is = subst IsFieldValue (sym is) (fits_at bytes places at d all within).1

-- ---- room

count_cons : (entry : List ℕ × List FieldValue) (head : Entries FieldValue) → value_count (entry ∷ head) ≡ length entry.1 + value_count head
count_cons entry head = sum_by-cons (λ (e : List ℕ × List FieldValue). length e.1) entry head

names_more : (head : Entries FieldValue) (name : List ℕ) (value : FieldValue) → length (append head name value) ≤ length head + 1
names_more [] name value = omega arith
names_more (entry ∷ head) name value = by (bytes_eq entry.0 name) (names_more head name value)
  where
    by : (same : Bool) → length (append head name value) ≤ length head + 1
        → length (cond same ((entry.0, entry.1 ++ value ∷ []) ∷ head) (entry ∷ append head name value)) ≤ length (entry ∷ head) + 1
    by true rest = omega arith
    by false rest = omega (arith, rest)

values_more : (head : Entries FieldValue) (name : List ℕ) (value : FieldValue) → value_count (append head name value) ≡ value_count head + 1
values_more [] name value = refl
values_more (entry ∷ head) name value = by (bytes_eq entry.0 name) (values_more head name value)
  where
    by : (same : Bool) → value_count (append head name value) ≡ value_count head + 1
        → value_count (cond same ((entry.0, entry.1 ++ value ∷ []) ∷ head) (entry ∷ append head name value)) ≡ value_count (entry ∷ head) + 1
    by true rest = omega (arith, count_cons (entry.0, entry.1 ++ value ∷ []) head, count_cons entry head, length-append entry.1 (value ∷ []))
    by false rest = omega (arith, rest, count_cons entry (append head name value), count_cons entry head)

-- a field more
pub one_more : (n : ℕ) (head : Entries FieldValue) (name : List ℕ) (value : FieldValue) → HoldsUpTo n head → HoldsUpTo (n + 1) (append head name value)
one_more n head name value holds =
    (omega (arith, holds.0, names_more head name value), omega (arith, holds.1, values_more head name value))
