-- A change of one element of a list.
use Rattle.std.specs.Prelude.{ℕ, ◌+◌, ◌-◌, ◌^◌, Bool, List, [], ◌∷◌, if◌then◌else◌, min}

-- the list with the first element that passes changed so
abbrev pub change : {X : Type 0} → (X → Bool) → (X → X) → List X → List X
change p f [] = []
change p f (x ∷ xs) = if p x then f x ∷ xs else x ∷ change p f xs

-- one more; a number of 64 bits that stands at their greatest stays
abbrev pub raised : ℕ → ℕ
raised n = min (n + 1) (2 ^ 64 - 1)
