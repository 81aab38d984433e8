-- Marks that were looked at one by one.
use Rattle.std.proofs.Common.{◌≡◌, ℕ, zero, suc, ◌<◌, true, false, ◌||◌, List, [], ◌∷◌, nat_eq, length, get_or, sym, ap, ◌∙◌, subst, inl, inr, arith, eqb-true}
use Rattle.std.specs.List.{AllByRecursion}
use Rattle.std.proofs.lemmas.Bool.{cases_Bool}
use Rattle.log_index.specs.HandedOn.{Rises}
use Rattle.log_index.specs.Marks.{is_marked}

rest_marked : (q x : ℕ) (xs : List ℕ) → nat_eq q x ≡ false → is_marked q (x ∷ xs) ≡ true → is_marked q xs ≡ true
rest_marked q x xs e h = sym (ap (λ b. b || is_marked q xs) e) ∙ h

-- what holds of each of these marks holds where a mark is
pub marked_in : (P : ℕ → Type 0) (marks : List ℕ) (q : ℕ) → is_marked q marks ≡ true → ((j : ℕ) → j < length marks → P (get_or marks j 0)) → P q
marked_in P [] q h each = let never : false ≡ true = h in cc
marked_in P (x ∷ xs) q h each = elim (cases_Bool (nat_eq q x)) [
  | inl e ↦ subst P (sym (eqb-true q x e)) (each 0 (omega arith))
  | inr e ↦ marked_in P xs q (rest_marked q x xs e h) (λ j lt. each (suc j) (omega arith))
]

above : (x : ℕ) (xs : List ℕ) (q : ℕ) → AllByRecursion (λ y. x < y) xs → is_marked q xs ≡ true → x < q
above x [] q all h = let never : false ≡ true = h in cc
above x (y ∷ ys) q all h = elim (cases_Bool (nat_eq q y)) [
  | inl e ↦ (let is = eqb-true q y e in let lt = all.0 in omega arith)
  | inr e ↦ above x ys q all.1 (rest_marked q y ys e h)
]

-- what holds of each of the first of these marks holds where a mark is below the next
pub marked_below : (P : ℕ → Type 0) (marks : List ℕ) (i q : ℕ) → Rises marks → i < length marks → q < get_or marks i 0 → is_marked q marks ≡ true → ((j : ℕ) → j < i → P (get_or marks j 0)) → P q
marked_below P [] i q rises lt below h each = absurd (omega arith)
marked_below P (x ∷ xs) zero q rises lt below h each = elim (cases_Bool (nat_eq q x)) [
  | inl e ↦ (let is = eqb-true q x e in absurd (omega arith))
  | inr e ↦ (let more = above x xs q rises.0 (rest_marked q x xs e h) in absurd (omega arith))
]
marked_below P (x ∷ xs) (suc i) q rises lt below h each = elim (cases_Bool (nat_eq q x)) [
  | inl e ↦ subst P (sym (eqb-true q x e)) (each 0 (omega arith))
  | inr e ↦ marked_below P xs i q rises.1 (omega arith) below (rest_marked q x xs e h) (λ j less. each (suc j) (omega arith))
]
