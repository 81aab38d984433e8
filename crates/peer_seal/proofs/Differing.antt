-- What the bits tell in which two texts differ.
use Rattle.std.proofs.Common.{◌≡◌, ◌↔◌, ℕ, ◌+◌, ◌<◌, List, [], ◌∷◌, ◌++◌, bit_or, bit_xor, length, take, get_or, arith, sym, ap, ◌∙◌}
use Rattle.std.specs.Int.Bits.{xor_self, xor_assoc, xor_zero_r, xor_zero_l}
use Rattle.std.proofs.lemmas.List.{same_from_push}
use Rattle.std.proofs.lemmas.Nat.{le_or_l, le_or_r}
use Rattle.std.proofs.lemmas.Grind.{take_at_read}

-- two numbers that differ in no bit are equal
pub same_bits : (x y : ℕ) → bit_xor x y ≡ 0 → x ≡ y
same_bits x y none =
    sym (xor_zero_r x) ∙ ap (λ (n : ℕ). bit_xor x n) (sym (xor_self y)) ∙ sym (xor_assoc x y y)
    ∙ ap (λ (n : ℕ). bit_xor n y) none ∙ xor_zero_l y

-- no bits in either
pub no_bits : (a b : ℕ) → bit_or a b ≡ 0 → (a ≡ 0) × (b ≡ 0)
no_bits a b none = (omega (arith, none, le_or_l a b), omega (arith, none, le_or_r a b))

-- one pair of bytes more
pub next_pair : (differing x y : ℕ) (xs ys : List ℕ) → ((differing ≡ 0) ↔ (xs ≡ ys))
    → (bit_or differing (bit_xor x y) ≡ 0) ↔ (xs ++ x ∷ [] ≡ ys ++ y ∷ [])
next_pair differing x y xs ys earlier = (
  λ none.
      let both = no_bits differing (bit_xor x y) none in
      let front : xs ≡ ys = earlier.0 both.0 in
      let byte : x ≡ y = same_bits x y both.1 in
      ap (λ (bytes : List ℕ). bytes ++ x ∷ []) front ∙ ap (λ (b : ℕ). ys ++ b ∷ []) byte,
  λ same.
      let parts = same_from_push xs ys x y same in
      let none : bit_xor x y ≡ 0 = ap (λ (b : ℕ). bit_xor b y) parts.1 ∙ xor_self y in
      ap (λ (n : ℕ). bit_or n (bit_xor x y)) (earlier.1 parts.0) ∙ ap (bit_or 0) none,
)

pub next_place : (differing i : ℕ) (xs ys : List ℕ) → i < length xs → i < length ys → ((differing ≡ 0) ↔ (take i xs ≡ take i ys))
    → (bit_or differing (bit_xor (get_or xs i 0) (get_or ys i 0)) ≡ 0) ↔ (take (i + 1) xs ≡ take (i + 1) ys)
next_place differing i xs ys in_xs in_ys earlier =
    rw (take_at_read xs i 0 in_xs).1
    (rw (take_at_read ys i 0 in_ys).1 (next_pair differing (get_or xs i 0) (get_or ys i 0) (take i xs) (take i ys) earlier))
