-- Words as they are written, one behind another, are cut and read one behind another.
use Rattle.std.proofs.Common.{◌≡◌, ℕ, zero, suc, ◌<◌, ◌≤◌, ◌^◌, Bool, true, false, not, List, [], ◌∷◌, ◌++◌, Option, Some, None, length, decimal, nat_eq, nat_le, nat_lt, ◌==◌, refl, ap, ◌∙◌, arith, length-append}
use Rattle.std.specs.Char.{is_ascii_digit}
use Rattle.std.specs.List.{list_all, position_or_len}
use Rattle.std.proofs.Math.Seq.{take-append_seam, drop-append-add}
use Rattle.std.proofs.lemmas.Bool.{and_parts}
use Rattle.std.proofs.lemmas.Bool.Decides.{nat_tests}
use Rattle.std.proofs.lemmas.Fmt.{decimal_digit, digits_decimal}
use Rattle.std.proofs.lemmas.List.Folds.{list_all-append}
use Rattle.request_names.proofs.IdLemmas.{read_decimal}
use Rattle.request_names.proofs.Parsed.{own}
use Rattle.request_names.specs.Numbers.{number_of}
use Rattle.dump_words.specs.Parts.{cut_at, from_one, in_u16, moment_of, with_part, with_word}
use Rattle.dump_laws.specs.Forms.{IsFromOne, IsNumber}

-- ---- bytes

pub all_weaker : (p q : ℕ → Bool) → ((b : ℕ) → p b ≡ true → q b ≡ true) → (bs : List ℕ) → list_all p bs ≡ true → list_all q bs ≡ true
all_weaker p q weaker [] all = refl
all_weaker p q weaker (b ∷ bs) all =
    let both = and_parts (p b) (list_all p bs) all in
    rw (weaker b both.0, all_weaker p q weaker bs both.1) refl

-- a byte isn't this one
abbrev pub lacks : ℕ → ℕ → Bool
lacks sep b = not (b == sep)

-- what holds of all of both holds of all of them in a row
pub all_both : (p : ℕ → Bool) (xs ys : List ℕ) → list_all p xs ≡ true → list_all p ys ≡ true → list_all p (xs ++ ys) ≡ true
all_both p xs ys a b = list_all-append p xs ys ∙ rw (a, b) refl

pub all_next : (p : ℕ → Bool) (x : ℕ) (ys : List ℕ) → p x ≡ true → list_all p ys ≡ true → list_all p (x ∷ ys) ≡ true
all_next p x ys a b = rw (a, b) refl

-- ---- words

pub first_at : (sep : ℕ) (word rest : List ℕ) → (sep == sep) ≡ true → list_all (lacks sep) word ≡ true → position_or_len (λ b. b == sep) (word ++ sep ∷ rest) ≡ length word
first_at sep [] rest same all = rw same refl
first_at sep (b ∷ bs) rest same all =
    let both = and_parts (lacks sep b) (list_all (lacks sep) bs) all in
    let other : (b == sep) ≡ false = grind (arith, nat_tests, both.0) in
    rw (other, first_at sep bs rest same both.1) (omega arith)

none_at : (sep : ℕ) (word : List ℕ) → list_all (lacks sep) word ≡ true → position_or_len (λ b. b == sep) word ≡ length word
none_at sep [] all = refl
none_at sep (b ∷ bs) all =
    let both = and_parts (lacks sep b) (list_all (lacks sep) bs) all in
    let other : (b == sep) ≡ false = grind (arith, nat_tests, both.0) in
    rw (other, none_at sep bs both.1) (omega arith)

pub cut_word : (sep : ℕ) (word rest : List ℕ) → (sep == sep) ≡ true → list_all (lacks sep) word ≡ true → cut_at sep (word ++ sep ∷ rest) ≡ (word, Some rest)
cut_word sep word rest same all =
    let at = first_at sep word rest same all in
    let inside : nat_lt (length word) (length (word ++ sep ∷ rest)) ≡ true = grind (arith, nat_tests, length-append) in
    rw (at, inside, take-append_seam word (sep ∷ rest), drop-append-add word (sep ∷ rest) 1) refl

pub cut_last : (sep : ℕ) (word : List ℕ) → list_all (lacks sep) word ≡ true → cut_at sep word ≡ (word, None)
cut_last sep word all =
    let outside : nat_lt (length word) (length word) ≡ false = grind (arith, nat_tests) in
    rw (none_at sep word all, outside) refl

-- the next word, with others behind it
pub one_word : {X : Type 0} (word rest : List ℕ) (next : List ℕ → Option (List ℕ) → Option X) → list_all (lacks 32) word ≡ true → with_word (Some (word ++ 32 ∷ rest)) next ≡ next word (Some rest)
one_word word rest next clean = ap (λ (c : List ℕ × Option (List ℕ)). next c.0 c.1) (cut_word 32 word rest refl clean)

-- the last word
pub last_word : {X : Type 0} (word : List ℕ) (next : List ℕ → Option (List ℕ) → Option X) → list_all (lacks 32) word ≡ true → with_word (Some word) next ≡ next word None
last_word word next clean = ap (λ (c : List ℕ × Option (List ℕ)). next c.0 c.1) (cut_last 32 word clean)

-- goes on with a part that is there
pub part_is : {X Y : Type 0} (o : Option X) (x : X) (next : X → Option Y) → o ≡ Some x → with_part o next ≡ next x
part_is o x next is = ap (λ p. with_part p next) is

-- ---- numbers

pub digits : (n : ℕ) → IsNumber n → list_all is_ascii_digit (decimal n) ≡ true
digits n small = digits_decimal own n small

digit_lacks_space : (b : ℕ) → is_ascii_digit b ≡ true → lacks 32 b ≡ true
digit_lacks_space b is = grind (arith, nat_tests)

digit_lacks_feed : (b : ℕ) → is_ascii_digit b ≡ true → lacks 10 b ≡ true
digit_lacks_feed b is = grind (arith, nat_tests)

pub digits_lack_spaces : (n : ℕ) → IsNumber n → list_all (lacks 32) (decimal n) ≡ true
digits_lack_spaces n small = all_weaker is_ascii_digit (lacks 32) digit_lacks_space (decimal n) (digits n small)

pub digits_lack_feeds : (n : ℕ) → IsNumber n → list_all (lacks 10) (decimal n) ≡ true
digits_lack_feeds n small = all_weaker is_ascii_digit (lacks 10) digit_lacks_feed (decimal n) (digits n small)

pub number_reads : (n : ℕ) → IsNumber n → number_of (decimal n) ≡ Some n
number_reads zero small =
    let digit : decimal 0 ≡ 48 ∷ [] = decimal_digit 0 (omega arith) in
    rw digit refl
number_reads (suc n) small = read_decimal (suc n) (omega arith) small

pub from_one_reads : (n : ℕ) → IsFromOne n → from_one (number_of (decimal n)) ≡ Some n
from_one_reads n is =
    let there : nat_eq n 0 ≡ false = grind (arith, nat_tests, is.0) in
    ap from_one (number_reads n is.1) ∙ rw there refl

pub status_reads : (n : ℕ) → n < 2 ^ 16 → in_u16 (number_of (decimal n)) ≡ Some n
status_reads n small =
    let wide : IsNumber n = omega (arith, small) in
    let fits : nat_le n 65535 ≡ true = grind (arith, nat_tests, small) in
    ap in_u16 (number_reads n wide) ∙ rw fits refl

pub moment_reads : (n : ℕ) → n ≤ 9223372036854775807 → moment_of (number_of (decimal n)) ≡ Some n
moment_reads n small =
    let wide : IsNumber n = omega (arith, small) in
    let fits : nat_le n 9223372036854775807 ≡ true = grind (arith, nat_tests, small) in
    ap moment_of (number_reads n wide) ∙ rw fits refl
