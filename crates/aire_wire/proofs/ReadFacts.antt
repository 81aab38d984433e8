-- What texts say of which a test was passed.
use Rattle.std.proofs.Common.{◌≡◌, ℕ, ◌-◌, ◌<◌, ◌^◌, ◌⊎◌, inl, inr, Bool, true, false, ◌&&◌, ◌||◌, cond, List, [], ◌∷◌, ◌++◌, Option, Some, None, Result, Ok, Err, length, take, drop, codes, nat_eq, nat_lt, ◌==◌, refl, sym, ap, ◌∙◌, arith, append_assoc}
use Rattle.std.specs.List.{All, ends_with, list_all, onto_first}
use Rattle.std.specs.Char.{is_ascii_digit}
use Rattle.std.specs.Option.{ForSome, is_some}
use Rattle.std.specs.Result.{result_ok}
use Rattle.std.proofs.lemmas.Bool.{and_parts}
use Rattle.std.proofs.lemmas.Bool.Decides.{nat_tests}
use Rattle.std.proofs.lemmas.List.{take-append-drop}
use Rattle.std.proofs.lemmas.List.Splits.{length-slice_split, slice_split_none}
use Rattle.std.proofs.lemmas.Slice.Eq.{bytes_eq-Decides}
use Rattle.lang_base.specs.Texts.{same_text}
use Rattle.lang_core.specs.Names.{is_name}
use Rattle.http_front.specs.declared.header.AireHeader.{AireHeader}
use Rattle.request_names.specs.Ids.{from_one, id_of, pair_of, parts_at, parts_of}
use Rattle.request_names.specs.Names.{refusal}
use Rattle.request_names.specs.Numbers.{begins_well, in_u64, number_of}
use Rattle.lang_base.specs.Characters.{digits_value}
use Rattle.request_names.specs.declared.names.NameRefused.{NameRefused}
use Rattle.request_names.specs.declared.names.NameRefused.TheVariants.{BadNumber, Empty}
use Rattle.wire_fields.specs.Fits.{bad_unless, number_in, number_or_zero, or_zero}
use Rattle.aire_wire.specs.Incoming.{ends_with_name, is_behind_comma, names_in}
use Rattle.aire_wire.specs.ReadBack.{IsFromOne, IsNumber}
use Rattle.aire_wire.proofs.TextForms.{name_without_comma}

-- ---- tests

pub fitted : (header : AireHeader) (b : Bool) → bad_unless header b ≡ None → b ≡ true
fitted header true none = refl
fitted header false none = cc

pub same : (text other : List ℕ) → same_text text other ≡ true → text ≡ other
same text other is = (bytes_eq-Decides text other).0 is

-- ---- numbers

small : (b : Bool) (v n : ℕ) → nat_lt v (2 ^ 64) ≡ b → cond b (Some v) None ≡ Some n → n < 2 ^ 64
small true v n fits is =
    let here : v < 2 ^ 64 = grind (arith, nat_tests) in
    let it : v ≡ n = cc in
    omega (arith, here, it)
small false v n fits is = cc

of_text : (b : Bool) (v n : ℕ) → cond b (in_u64 v) None ≡ Some n → n < 2 ^ 64
of_text true v n is = small (nat_lt v (2 ^ 64)) v n refl is
of_text false v n is = cc

pub number_small : (text : List ℕ) → ForSome (number_of text) IsNumber
number_small text = λ n is. of_text (list_all is_ascii_digit text && begins_well text) (digits_value text) n is

zero_small : (o : Option ℕ) → ForSome o IsNumber → or_zero o < 2 ^ 64
zero_small None each = omega arith
zero_small (Some n) each = each n refl

pub version_small : (text : List ℕ) → or_zero (number_of text) < 2 ^ 64
version_small text = zero_small (number_of text) (number_small text)

-- ---- ids

-- what is found is from 1 and of 64 bits
abbrev IsFound : Result (List ℕ × ℕ) NameRefused → Type 0
IsFound r = is_some (result_ok r) ≡ true → IsFromOne (number_or_zero (result_ok r))

positive : (b : Bool) (name : List ℕ) (n : ℕ) → nat_eq n 0 ≡ b → n < 2 ^ 64 → IsFound (pair_of name None (cond b (Err BadNumber) (Ok n)))
positive true name n zero fits = λ is. absurd (cc is)
positive false name n some fits = λ is. (grind (arith, nat_tests), fits)

with_number : (name : List ℕ) (why : Option NameRefused) (o : Option ℕ) → ForSome o IsNumber → IsFound (pair_of name why (from_one o))
with_number name (Some why) o each = λ is. absurd (cc is)
with_number name None None each = λ is. absurd (cc is)
with_number name None (Some n) each = positive (nat_eq n 0) name n refl (each n refl)

of_parts : (o : Option (List ℕ × List ℕ)) → IsFound (parts_at o)
of_parts None = λ is. absurd (cc is)
of_parts (Some parts) = with_number parts.0 (refusal parts.0) (number_of parts.1) (number_small parts.1)

of_id : (empty : Bool) (o : Option (List ℕ × List ℕ)) → IsFound (cond empty (Err Empty) (parts_at o))
of_id true o = λ is. absurd (cc is)
of_id false o = of_parts o

pub id_from_one : (text : List ℕ) → is_some (id_of text) ≡ true → IsFromOne (number_in text)
id_from_one text is = of_id (nat_eq (length text) 0) (parts_of text) is

-- ---- chains

pub some_names : (chain : List ℕ) → 0 < length (names_in chain)
some_names chain = omega (arith, length-slice_split (λ b. b == 44) chain)

onto_last : (x : ℕ) (parts : List (List ℕ)) (last : List ℕ) → 0 < length parts → onto_first x (parts ++ last ∷ []) ≡ onto_first x parts ++ last ∷ []
onto_last x [] last some = absurd (omega (arith, some))
onto_last x (part ∷ parts) last some = refl

split_first : (b : Bool) (x : ℕ) (whole front : List (List ℕ)) (last : List ℕ) → 0 < length front → whole ≡ front ++ last ∷ []
    → cond b ([] ∷ whole) (onto_first x whole) ≡ cond b ([] ∷ front) (onto_first x front) ++ last ∷ []
split_first true x whole front last some is = ap (λ (parts : List (List ℕ)). [] ∷ parts) is
split_first false x whole front last some is = ap (onto_first x) is ∙ onto_last x front last some

-- what stands behind the last comma is the last piece
split_last : (front last : List ℕ) → All (λ b. (b == 44) ≡ false) last → names_in (front ++ 44 ∷ last) ≡ names_in front ++ last ∷ []
split_last [] last none = ap (λ (parts : List (List ℕ)). [] ∷ parts) (slice_split_none (λ b. b == 44) last none)
split_last (b ∷ front) last none =
    split_first (b == 44) b (names_in (front ++ 44 ∷ last)) (names_in front) last (some_names front) (split_last front last none)

-- a text that ends with another has it behind a front
cut_end : (text last : List ℕ) → ends_with nat_eq text last ≡ true → text ≡ take (length text - length last) text ++ last
cut_end text last ends =
    let at = length text - length last in
    sym (take-append-drop at text) ∙ ap (λ (rest : List ℕ). take at text ++ rest) (sym ((bytes_eq-Decides last (drop at text)).0 ends))

-- the front of a chain before its last name
abbrev Front : List ℕ → List ℕ → Type 0
Front chain name = (front : List (List ℕ)) × (names_in chain ≡ front ++ name ∷ [])

nothing_before : (front name : List ℕ) → length front ≡ 0 → is_name name ≡ true → Front (front ++ name) name
nothing_before [] name empty is = ([], slice_split_none (λ b. b == 44) name (name_without_comma name is))
nothing_before (b ∷ front) name empty is = absurd (omega (arith, empty))

behind_comma : (front name : List ℕ) → ends_with nat_eq front (codes ",") ≡ true → is_name name ≡ true → Front (front ++ name) name
behind_comma front name ends is =
    let before = take (length front - 1) front in
    let whole : front ++ name ≡ before ++ 44 ∷ name = ap (λ (text : List ℕ). text ++ name) (cut_end front (codes ",") ends) ∙ append_assoc before (44 ∷ []) name in
    (names_in before, ap names_in whole ∙ split_last before name (name_without_comma name is))

either : (empty ends : Bool) → (empty || ends) ≡ true → (empty ≡ true) ⊎ (ends ≡ true)
either true ends is = inl refl
either false ends is = inr is

behind : (front name : List ℕ) → is_behind_comma front ≡ true → is_name name ≡ true → Front (front ++ name) name
behind front name is named = by (either (nat_eq (length front) 0) (ends_with nat_eq front (codes ",")) is)
  where
    by : (nat_eq (length front) 0 ≡ true) ⊎ (ends_with nat_eq front (codes ",") ≡ true) → Front (front ++ name) name
    by (inl empty) = nothing_before front name (grind (arith, nat_tests)) named
    by (inr ends) = behind_comma front name ends named

-- a chain that ends with a name has it as its last one
pub last_name : (chain name : List ℕ) → ends_with_name chain name ≡ true → is_name name ≡ true → (front : List (List ℕ)) × (names_in chain ≡ front ++ name ∷ [])
last_name chain name is named =
    let both = and_parts (ends_with nat_eq chain name) (is_behind_comma (take (length chain - length name) chain)) is in
    let found = behind (take (length chain - length name) chain) name both.1 named in
    (found.0, ap names_in (cut_end chain name both.0) ∙ found.1)
