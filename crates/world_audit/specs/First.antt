-- The first element of which something doesn't hold.
use Rattle.std.specs.Prelude.{◌≡◌, ℕ, ◌<◌, List, length}
use Rattle.std.specs.List.{AllWithin, HoldsAt}

-- it holds of each element before this place, and not of the one there
abbrev pub IsFirstWithout : {X : Type 0} → (X → Type 0) → List X → ℕ → Type 0
IsFirstWithout P xs place = (place < length xs) × AllWithin P xs 0 place × HoldsAt (λ x. ¬ (P x)) xs place

-- the first element of which it doesn't hold has this number
pub record IsFirstNumber {X : Type 0} (P : X → Type 0) (number_of : X → ℕ) (xs : List X) (number : ℕ) : Type 0 where
  pub place : ℕ
  pub first : IsFirstWithout P xs place
  pub names : HoldsAt (λ x. number_of x ≡ number) xs place
