-- Searches from the first element on.
use Rattle.std.proofs.Common.{◌≡◌, ◌↔◌, ◌+◌, ◌<◌, ◌∷◌, ◌++◌, [], ℕ, zero, suc, List, Some, Bool, true, false, length, get_or, slice_get, refl, sym, ◌∙◌, subst, arith, inl, inr, IsTrue, true≢false}
use Rattle.std.proofs.lemmas.Bool.{cases_lt}
use Rattle.std.proofs.lemmas.Option.{slice_get_read}

-- what those before a place are and the one there is too, those before the next place are
pub all_more : {A : Type 0} (P : A → Type 0) (xs : List A) (i : ℕ) (x : A) → x ≡ get_or xs i x → i < length xs
    → ((k : ℕ) (y : A) → k < i → slice_get xs k ≡ Some y → P y) → P x → (k : ℕ) (y : A) → k < i + 1 → slice_get xs k ≡ Some y → P y
all_more P xs i x is within all here k y less there = elim (cases_lt k i) [
  | inl before ↦ all k y before there
  | inr past ↦
      let same : k ≡ i = omega (arith, less, past) in
      let read : slice_get xs i ≡ Some x = slice_get_read xs (length xs) i x refl within is in
      let both : slice_get xs i ≡ Some y = subst (λ n. slice_get xs n ≡ Some y) same there in
      let equal : x ≡ y = cc in
      subst P equal here
]

-- what a test that was false is of doesn't hold
pub refuted : {P : Type 0} (b : Bool) → (IsTrue b ↔ P) → b ≡ false → ¬ P
refuted b both fails p = true≢false (sym (both.1 p) ∙ fails)

-- what a test that was true is of holds
pub affirmed : {P : Type 0} (b : Bool) → (IsTrue b ↔ P) → b ≡ true → P
affirmed b both holds = both.0 holds

-- ---- the end of a list

-- what stands in a list stands there before others
pub in_longer : {A : Type 0} (xs ys : List A) (i : ℕ) (x : A) → slice_get xs i ≡ Some x → slice_get (xs ++ ys) i ≡ Some x
in_longer [] ys i x h = cc
in_longer (y ∷ xs) ys zero x h = h
in_longer (y ∷ xs) ys (suc i) x h = in_longer xs ys i x h

-- the one behind others
pub last_there : {A : Type 0} (xs : List A) (x : A) → slice_get (xs ++ x ∷ []) (length xs) ≡ Some x
last_there [] x = refl
last_there (y ∷ xs) x = last_there xs x
