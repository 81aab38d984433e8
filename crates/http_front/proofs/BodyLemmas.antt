-- The length that a head says, and the body behind it.
use Rattle.std.proofs.Common.{◌≡◌, ℕ, ◌+◌, ◌-◌, ◌*◌, ◌<◌, ◌≤◌, ◌^◌, Bool, true, false, ◌&&◌, cond, List, [], ◌∷◌, ◌++◌, Ok, Some, None, length, codes, decimal, nat_le, nat_lt, refl, ap, ◌∙◌, arith, rules, length-append, fold}
use Rattle.std.specs.List.{list_all, slice_get}
use Rattle.std.specs.Str.{is_utf8}
use Rattle.std.proofs.Math.Seq.{take-append_seam}
use Rattle.std.proofs.lemmas.Bool.Decides.{nat_tests}
use Rattle.std.proofs.lemmas.Fmt.{decimal_nonempty, digits_decimal, digits_value-decimal, length-decimal-le}
use Rattle.std.proofs.lemmas.Str.Parse.{IsNumeralModel, numerals_by_fold}
use Rattle.http_header.specs.FieldValue.{FieldValue, plain_value}
use Rattle.http_header.specs.HeaderMap.{Entries, get_all}
use Rattle.lang_base.specs.Characters.{digits_value, is_digit}
use Rattle.http_front.specs.Lengths.{body_length, is_length, length_given, length_unless_coded, within_limit}
use Rattle.http_front.specs.Reading.{body_behind}
use Rattle.std.proofs.lemmas.Bool.{and_from}
use Rattle.http_front.proofs.MapLemmas.{SaysLength}

-- ---- digits

pub own : IsNumeralModel (λ ds. list_all is_digit ds ≡ true) digits_value
own = numerals_by_fold _ (search rules) (λ n ds. fold (λ m d. m * 10 + (d - 48)) n ds) (search rules)

is_length_of : (n : ℕ) → n ≤ 65536 → is_length (decimal n) ≡ true
is_length_of n small =
    let fits : n < 2 ^ 64 = omega (arith, small) in
    let some : nat_lt 0 (length (decimal n)) ≡ true = let one = decimal_nonempty n fits in grind (arith, nat_tests, one) in
    let few : nat_le (length (decimal n)) 19 ≡ true = let most = length-decimal-le 19 n (omega arith) (omega (arith, small)) fits in grind (arith, nat_tests, most) in
    and_from (nat_lt 0 (length (decimal n)) && nat_le (length (decimal n)) 19) (list_all is_digit (decimal n))
    (and_from (nat_lt 0 (length (decimal n))) (nat_le (length (decimal n)) 19) some few) (digits_decimal own n fits)

one_length : (n : ℕ) → n ≤ 65536 → within_limit (length_given (plain_value (decimal n) ∷ [])) ≡ Ok n
one_length n small =
    let fits : n < 2 ^ 64 = omega (arith, small) in
    let within : nat_lt 65536 n ≡ false = grind (arith, nat_tests, small) in
    let said : is_length (decimal n) && true ≡ true = and_from (is_length (decimal n)) true (is_length_of n small) refl in
    ap (λ (b : Bool). within_limit (cond b (Some (digits_value (decimal n))) None)) said
    ∙ ap (λ (m : ℕ). within_limit (Some m)) (digits_value-decimal own n fits) ∙ rw within refl

-- ---- what is read

pub measured : (head : Entries FieldValue) (body : List ℕ) → SaysLength head body → length body ≤ 65536 → body_length head ≡ Ok (length body)
measured head body says small =
    ap (λ (values : List FieldValue). length_unless_coded (slice_get values 0) (get_all head (codes "content-length"))) says.uncoded
    ∙ ap (λ (values : List FieldValue). length_unless_coded None values) says.one_length ∙ one_length (length body) small

pub body_back : (head : ℕ) (body rest : List ℕ) → is_utf8 body ≡ true → body_behind head (length body) (body ++ rest) ≡ Ok body
body_back head body rest text =
    let whole : nat_lt (length (body ++ rest)) (length body) ≡ false = let long = length-append body rest in grind (arith, nat_tests, long) in
    rw (whole, take-append_seam body rest, text) refl
