-- Walks over a list: a fold over what passes a test, and a test of what is made of each element.
use Rattle.std.proofs.Common.{◌≡◌, refl, ap, Bool, ◌||◌, List, [], ◌∷◌, cond, filter, fold, map, inl, inr}
use Rattle.std.specs.List.{list_any}
use Rattle.std.proofs.lemmas.Bool.{cases_Bool}

pub fold_filter : {X Y : Type 0} (p : X → Bool) (f : Y → X → Y) (y : Y) (xs : List X) → fold (λ y x. cond (p x) (f y x) y) y xs ≡ fold f y (filter p xs)
fold_filter p f y [] = refl
fold_filter p f y (x ∷ xs) = elim (cases_Bool (p x)) [
  | inl is ↦ rw is (fold_filter p f (f y x) xs)
  | inr other ↦ rw other (fold_filter p f y xs)
]

pub any_map : {X Y : Type 0} (p : Y → Bool) (f : X → Y) (xs : List X) → list_any p (map f xs) ≡ list_any (λ x. p (f x)) xs
any_map p f [] = refl
any_map p f (x ∷ xs) = ap (λ b. p (f x) || b) (any_map p f xs)
