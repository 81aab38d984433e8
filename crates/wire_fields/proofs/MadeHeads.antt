-- Heads that are made field by field: each field's value is plain, and each name has one value.
use Rattle.std.proofs.Common.{◌≡◌, ℕ, Bool, true, false, cond, not, List, [], ◌∷◌, bytes_eq, refl, sym, ap, ◌∙◌, arith}
use Rattle.std.specs.List.{AllPass, list_all, flat_map, slice_get}
use Rattle.std.proofs.lemmas.List.Folds.{list_all-append}
use Rattle.std.proofs.lemmas.List.Sums.{AllPass-from_list_all}
use Rattle.http_header.specs.FieldValue.{FieldValue, plain_value}
use Rattle.http_header.specs.HeaderMap.{Entries, get_all}
use Rattle.http_front.specs.Table.{aire_headers, spelling}
use Rattle.http_front.specs.Writing.{aire_lines, first_of_header, line_if}
use Rattle.http_front.specs.declared.header.AireHeader.{AireHeader}
use Rattle.http_front.specs.declared.header.AireHeader.TheVariants.{From, Dest, RequestId, ResponseId, NotifierUrl, Repair, Version, AnswerVersion, Who, Method, Path, RequestWho, Chain, Before, After, Refused, Seal}
use Rattle.wire_fields.specs.Heads.{Field, with_field, with_fields}
use Rattle.http_front.specs.ReadBack.{is_plain, is_plain_line}
use Rattle.std.proofs.lemmas.Bool.{and_from, and_parts}
use Rattle.http_front.proofs.MapLemmas.{added, first_plain, key}

-- ---- plain values

abbrev pub is_plain_value : FieldValue → Bool
is_plain_value value = is_plain value.bytes

abbrev pub is_plain_field : Field → Bool
is_plain_field field = is_plain field.1

-- the values under each name are
abbrev pub ArePlain : Entries FieldValue → Type 0
ArePlain head = (name : List ℕ) → list_all is_plain_value (get_all head name) ≡ true

pub none_plain : ArePlain []
none_plain = λ name. refl

chosen : (b : Bool) (text : List ℕ) → is_plain text ≡ true → list_all is_plain_value (cond b (plain_value text ∷ []) []) ≡ true
chosen true text plain = and_from (is_plain text) true plain refl
chosen false text plain = refl

pub one_plain : (head : Entries FieldValue) (field : Field) → ArePlain head → is_plain_field field ≡ true → ArePlain (with_field head field)
one_plain head field all plain = λ name.
    let b = bytes_eq (key field.0) name in
    ap (list_all is_plain_value) (added head name (spelling field.0, field.1))
    ∙ list_all-append is_plain_value (get_all head name) (cond b (plain_value field.1 ∷ []) [])
    ∙ and_from (list_all is_plain_value (get_all head name)) (list_all is_plain_value (cond b (plain_value field.1 ∷ []) [])) (all name) (chosen b field.1 plain)

pub all_plain : (head : Entries FieldValue) (fields : List Field) → ArePlain head → list_all is_plain_field fields ≡ true → ArePlain (with_fields head fields)
all_plain head [] all plain = all
all_plain head (field ∷ fields) all plain =
    let both = and_parts (is_plain_field field) (list_all is_plain_field fields) plain in
    all_plain (with_field head field) fields (one_plain head field all both.0) both.1

-- ---- the lines of the table

line_plain : (name : List ℕ) (values : List FieldValue) → list_all is_plain_value values ≡ true → list_all is_plain_line (line_if name (slice_get values 0)) ≡ true
line_plain name [] all = refl
line_plain name (value ∷ values) all =
    and_from (is_plain value.bytes) true (and_parts (is_plain_value value) (list_all is_plain_value values) all).0 refl

lines_plain : (head : Entries FieldValue) (headers : List AireHeader) → ArePlain head → list_all is_plain_line (flat_map (first_of_header head) headers) ≡ true
lines_plain head [] all = refl
lines_plain head (header ∷ headers) all =
    list_all-append is_plain_line (first_of_header head header) (flat_map (first_of_header head) headers)
    ∙ and_from (list_all is_plain_line (first_of_header head header)) (list_all is_plain_line (flat_map (first_of_header head) headers))
    (line_plain (spelling header) (get_all head (key header)) (all (key header))) (lines_plain head headers all)

pub table_plain : (head : Entries FieldValue) → ArePlain head → list_all is_plain_line (aire_lines head) ≡ true
table_plain head all = lines_plain head aire_headers all

-- ---- one value at most

-- none, or one as it is made
abbrev pub is_single : List FieldValue → Bool
is_single [] = true
is_single (value ∷ []) = not value.is_sensitive
is_single (value ∷ other ∷ values) = false

pub single : (values : List FieldValue) → is_single values ≡ true → first_plain (slice_get values 0) ≡ values
single [] is = refl
single (value ∷ []) is = by value.is_sensitive is refl
  where
    by : (b : Bool) → not b ≡ true → value.is_sensitive ≡ b → plain_value value.bytes ∷ [] ≡ value ∷ []
    by true is sensitive = cc
    by false is sensitive = ap (λ (b : Bool). record { bytes = value.bytes; is_sensitive = b } ∷ []) (sym sensitive)
single (value ∷ other ∷ values) is = cc

abbrev pub each_single : Entries FieldValue → Bool
each_single head = list_all (λ header. is_single (get_all head (key header))) aire_headers

abbrev pub AreSingle : Entries FieldValue → Type 0
AreSingle head = (header : AireHeader) → is_single (get_all head (key header)) ≡ true

-- what passes for the whole table passes for each header
of_each : (test : AireHeader → Bool) → AllPass test aire_headers → (header : AireHeader) → test header ≡ true
of_each test all From = all 0 From (omega arith)
of_each test all Dest = all 1 From (omega arith)
of_each test all RequestId = all 2 From (omega arith)
of_each test all ResponseId = all 3 From (omega arith)
of_each test all NotifierUrl = all 4 From (omega arith)
of_each test all Repair = all 5 From (omega arith)
of_each test all Version = all 6 From (omega arith)
of_each test all AnswerVersion = all 7 From (omega arith)
of_each test all Who = all 8 From (omega arith)
of_each test all Method = all 9 From (omega arith)
of_each test all Path = all 10 From (omega arith)
of_each test all RequestWho = all 11 From (omega arith)
of_each test all Chain = all 12 From (omega arith)
of_each test all Before = all 13 From (omega arith)
of_each test all After = all 14 From (omega arith)
of_each test all Refused = all 15 From (omega arith)
of_each test all Seal = all 16 From (omega arith)

pub are_single : (head : Entries FieldValue) → each_single head ≡ true → AreSingle head
are_single head is = of_each (λ header. is_single (get_all head (key header))) (AllPass-from_list_all (λ header. is_single (get_all head (key header))) aire_headers is)
