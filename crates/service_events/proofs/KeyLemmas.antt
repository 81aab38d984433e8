-- One element of a list changed, found by a number that the change leaves.
use Rattle.std.proofs.Common.{◌≡◌, ℕ, suc, Bool, true, false, cond, List, [], ◌∷◌, length, Some, find, option_map, refl, ap, ◌∙◌, inl, inr, nat_eq, eqb-true}
use Rattle.std.proofs.lemmas.Bool.{cases_Bool, cond-true, cond-false}
use Rattle.call_registers.specs.Changes.{change}

-- an element has this number
abbrev pub is_at : {X : Type 0} → (X → ℕ) → ℕ → X → Bool
is_at key n x = nat_eq (key x) n

module _ {X : Type 0} (key : X → ℕ) (n : ℕ) (f : X → X) (same : (x : X) → key (f x) ≡ key x) where
  own_first : (x : X) (xs : List X) (b : Bool) → is_at key n x ≡ b → find (is_at key n) (change (is_at key n) f xs) ≡ option_map f (find (is_at key n) xs)
      → find (is_at key n) (cond b (f x ∷ xs) (x ∷ change (is_at key n) f xs)) ≡ option_map f (cond b (Some x) (find (is_at key n) xs))
  own_first x xs true is more = cond-true (is_at key n (f x)) (Some (f x)) (find (is_at key n) xs) (ap (λ k. nat_eq k n) (same x) ∙ is)
  own_first x xs false is more = cond-false (is_at key n x) (Some x) (find (is_at key n) (change (is_at key n) f xs)) is ∙ more

  -- its number finds it changed
  pub change_own : (xs : List X) → find (is_at key n) (change (is_at key n) f xs) ≡ option_map f (find (is_at key n) xs)
  change_own [] = refl
  change_own (x ∷ xs) = own_first x xs (is_at key n x) refl (change_own xs)

  -- another number finds what it found
  pub change_other : (k : ℕ) → nat_eq n k ≡ false → (xs : List X) → find (is_at key k) (change (is_at key n) f xs) ≡ find (is_at key k) xs
  change_other k h [] = refl
  change_other k h (x ∷ xs) = elim (cases_Bool (is_at key n x)) [
    | inl is ↦ (let old : is_at key k x ≡ false = ap (λ m. nat_eq m k) (eqb-true (key x) n is) ∙ h in
        let new : is_at key k (f x) ≡ false = ap (λ m. nat_eq m k) (same x) ∙ old in
        rw is (rw (new, old) refl))
    | inr other ↦ rw other (ap (λ o. cond (is_at key k x) (Some x) o) (change_other k h xs))
  ]

  pub length_change : (xs : List X) → length (change (is_at key n) f xs) ≡ length xs
  length_change [] = refl
  length_change (x ∷ xs) = elim (cases_Bool (is_at key n x)) [
    | inl is ↦ rw is refl
    | inr other ↦ rw other (ap suc (length_change xs))
  ]
