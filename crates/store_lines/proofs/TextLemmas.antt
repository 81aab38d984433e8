-- Bytes that a text lacks, where it is cut by one, and the digits of numbers.
use Rattle.std.proofs.Common.{◌≡◌, ◌≢◌, ℕ, suc, ◌+◌, ◌*◌, ◌<◌, ◌≤◌, ◌^◌, Bool, true, false, List, [], ◌∷◌, ◌++◌, map, if◌then◌else◌, ◌==◌, refl, ◌∙◌, ap, arith, rules}
use Rattle.std.specs.Int.{IsInRange}
use Rattle.std.specs.Int.Digits.{number_from_digits, number_from_digits_after}
use Rattle.std.specs.Char.{digit_value}
use Rattle.std.specs.Str.Parse.{digits_value}
use Rattle.std.specs.Prelude.{decimal}
use Rattle.std.proofs.lemmas.Bool.Decides.{nat_tests}
use Rattle.std.proofs.lemmas.Fmt.{digits_decimal, digits_value-decimal}
use Rattle.std.proofs.lemmas.Int.Digits.{digits_value_is, number_after_append}
use Rattle.std.proofs.lemmas.List.{map-append}
use Rattle.std.proofs.lemmas.Str.Parse.{IsNumeralModel, numerals_by_value}
use Rattle.store_lines.specs.Lines.{IsText, Lacks}

pub lacks_append : (b : ℕ) (xs ys : List ℕ) → Lacks b xs → Lacks b ys → Lacks b (xs ++ ys)
lacks_append b [] ys none there = there
lacks_append b (x ∷ xs) ys here there = (here.0, lacks_append b xs ys here.1 there)

pub lacks_behind : (b : ℕ) (xs ys : List ℕ) → Lacks b (xs ++ ys) → Lacks b ys
lacks_behind b [] ys lacks = lacks
lacks_behind b (x ∷ xs) ys lacks = lacks_behind b xs ys lacks.1

pub text_lacks_end : (xs : List ℕ) → IsText xs → Lacks 10 xs
text_lacks_end [] text = tt
text_lacks_end (x ∷ xs) text = (text.1, text_lacks_end xs text.2)

pub text_lacks_zero : (xs : List ℕ) → IsText xs → Lacks 0 xs
text_lacks_zero [] text = tt
text_lacks_zero (x ∷ xs) text = (text.0, text_lacks_zero xs text.2)

pub text_from : (xs : List ℕ) → Lacks 0 xs → Lacks 10 xs → IsText xs
text_from [] none inner = tt
text_from (x ∷ xs) none inner = (none.0, inner.0, text_from xs none.1 inner.1)

-- what stands in front of the first byte of this kind, and behind it
pub first_of : (b : ℕ) (xs ys front behind : List ℕ) → Lacks b xs → Lacks b front → xs ++ b ∷ ys ≡ front ++ b ∷ behind → (xs ≡ front) × (ys ≡ behind)
first_of b [] ys [] behind here there is = (refl, cc)
first_of b [] ys (f ∷ front) behind here there is = let e : f ≡ b = cc in absurd (there.0 e)
first_of b (x ∷ xs) ys [] behind here there is = let e : x ≡ b = cc in absurd (here.0 e)
first_of b (x ∷ xs) ys (f ∷ front) behind here there is =
    let head : x ≡ f = cc in
    let tail : xs ++ b ∷ ys ≡ front ++ b ∷ behind = cc in
    let more = first_of b xs ys front behind here.1 there.1 tail in
    (ap (λ (k : ℕ). k ∷ xs) head ∙ ap (λ (l : List ℕ). f ∷ l) more.0, more.1)

-- ---- spaces

abbrev pub spaces : List ℕ → ℕ
spaces [] = 0
spaces (b ∷ bs) = if b == 32 then suc (spaces bs) else spaces bs

one_more : (b : Bool) (m n k : ℕ) → m ≡ n + k → (if b then suc m else m) ≡ (if b then suc n else n) + k
one_more true m n k is = omega (arith, is)
one_more false m n k is = is

pub spaces_append : (xs ys : List ℕ) → spaces (xs ++ ys) ≡ spaces xs + spaces ys
spaces_append [] ys = omega arith
spaces_append (x ∷ xs) ys = one_more (x == 32) (spaces (xs ++ ys)) (spaces xs) (spaces ys) (spaces_append xs ys)

no_space : (b n : ℕ) → b ≢ 32 → (if b == 32 then suc n else n) ≡ n
no_space b n other = grind (arith, nat_tests)

is_no_space : (b n : ℕ) → (if b == 32 then suc n else n) ≡ 0 → b ≢ 32
is_no_space b n none = grind (arith, nat_tests)

and_none_behind : (b n : ℕ) → (if b == 32 then suc n else n) ≡ 0 → n ≡ 0
and_none_behind b n none = grind (arith, nat_tests)

pub spaces_none : (xs : List ℕ) → Lacks 32 xs → spaces xs ≡ 0
spaces_none [] lacks = refl
spaces_none (x ∷ xs) lacks = no_space x (spaces xs) lacks.0 ∙ spaces_none xs lacks.1

pub lacks_spaces : (xs : List ℕ) → spaces xs ≡ 0 → Lacks 32 xs
lacks_spaces [] none = tt
lacks_spaces (x ∷ xs) none = (is_no_space x (spaces xs) none, lacks_spaces xs (and_none_behind x (spaces xs) none))

-- ---- digits

abbrev pub Digits : List ℕ → Type 0
Digits [] = Unit {0}
Digits (c ∷ cs) = IsInRange 48 57 c × Digits cs

pub own : IsNumeralModel Digits (digits_value 10)
own = numerals_by_value Digits (search rules)

pub decimal_digits : (n : ℕ) → n < 2 ^ 64 → Digits (decimal n)
decimal_digits n small = digits_decimal own n small

pub decimal_value : (n : ℕ) → n < 2 ^ 64 → digits_value 10 (decimal n) ≡ n
decimal_value n small = digits_value-decimal own n small

pub digits_lack : (b : ℕ) (ds : List ℕ) → b < 48 → Digits ds → Lacks b ds
digits_lack b [] small are = tt
digits_lack b (d ∷ ds) small are = let range : 48 ≤ d = are.0.0 in (omega arith, digits_lack b ds small are.1)

after_more : (n : ℕ) (ds : List ℕ) (m : ℕ) → m ≤ n → number_from_digits_after 10 m ds ≤ number_from_digits_after 10 n ds
after_more n [] m le = le
after_more n (d ∷ ds) m le = after_more (n * 10 + d) ds (m * 10 + d) (omega arith)

-- digits in front of others make no less
pub value_behind : (front ds : List ℕ) → digits_value 10 ds ≤ digits_value 10 (front ++ ds)
value_behind front ds =
    let here = digits_value_is 10 ds in
    let whole = digits_value_is 10 (front ++ ds) in
    let split : map digit_value (front ++ ds) ≡ map digit_value front ++ map digit_value ds = map-append digit_value front ds in
    let joined = number_after_append 10 0 (map digit_value front) (map digit_value ds) in
    let all : digits_value 10 (front ++ ds) ≡ number_from_digits_after 10 (number_from_digits_after 10 0 (map digit_value front)) (map digit_value ds) =
    whole ∙ ap (λ (l : List ℕ). number_from_digits 10 l) split ∙ joined in
    let le = after_more (number_from_digits_after 10 0 (map digit_value front)) (map digit_value ds) 0 (omega arith) in
    omega (arith, here, all, le)
