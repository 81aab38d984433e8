-- Items of which some wait: the keys of those, by where they go and since when.
use Rattle.std.specs.Prelude.{ℕ, ◌≡◌, List, Option, Some}
use Rattle.std.specs.List.{Contains, sum_by}
use Rattle.lang_lists.specs.Ages.{weigh, IsRising}
use Rattle.lang_lists.specs.declared.age_keys.AgeKey.{AgeKey}

-- these are the keys with this code of what has a number, the oldest first, where this is the key of each number that waits
pub record AreOldestFirst (code : ℕ) (key_of : ℕ → Option AgeKey) (keys : List AgeKey) : Type 0 where
  pub rising : IsRising keys
  pub only : (k : AgeKey) → Contains keys k → (k.code ≡ code) × (key_of k.number ≡ Some k)
  pub all : (k : AgeKey) → k.code ≡ code → key_of k.number ≡ Some k → Contains keys k

-- what an item adds to a sum over keys, where this is the key of each that waits
abbrev pub adds : {X : Type 0} → (X → Option AgeKey) → (AgeKey → ℕ) → X → ℕ
adds key f x = weigh f (key x)

-- the keys are those of these items, in whatever order; told by sums over them, of whichever numbers
abbrev pub IsQueue : {X : Type 0} → (X → Option AgeKey) → List X → List AgeKey → Type 0
IsQueue key xs keys = (f : AgeKey → ℕ) → sum_by f keys ≡ sum_by (adds key f) xs
