-- Lists in the order of their items' numbers, of which no two are equal.
use Rattle.std.specs.Prelude.{ℕ, ◌≡◌, ◌+◌, ◌<◌, ◌≤◌, Bool, not, List, [], ◌∷◌, if◌then◌else◌, length, nat_eq, nat_lt, filter, slice_index_or}
use Rattle.std.specs.List.{AllWithin}

abbrev pub has_number : {X : Type 0} → (X → ℕ) → ℕ → X → Bool
has_number number n x = nat_eq (number x) n

-- numbers rise, beginning with this or a greater one
abbrev pub RisesFrom : {X : Type 0} → (X → ℕ) → ℕ → List X → Type 0
RisesFrom number m [] = Unit {0}
RisesFrom number m (x ∷ xs) = (m ≤ number x) × RisesFrom number (number x + 1) xs

abbrev pub IsRising : {X : Type 0} → (X → ℕ) → List X → Type 0
IsRising number xs = RisesFrom number 0 xs

abbrev pub without_number : {X : Type 0} → (X → ℕ) → ℕ → List X → List X
without_number number n xs = filter (λ x. not (has_number number n x)) xs

-- before the first one of a greater number
abbrev pub put_item : {X : Type 0} → (X → ℕ) → X → List X → List X
put_item number x [] = x ∷ []
put_item number x (y ∷ ys) = if nat_lt (number x) (number y) then x ∷ y ∷ ys else y ∷ put_item number x ys

-- in place of the one of its number, if there is one
abbrev pub with_item : {X : Type 0} → (X → ℕ) → X → List X → List X
with_item number x xs = put_item number x (without_number number (number x) xs)

-- the item of the number stands at a place
pub record IsAt {X : Type 0} (number : X → ℕ) (n : ℕ) (xs : List X) (place : ℕ) : Type 0 where
  pub within : place < length xs
  pub front : AllWithin (λ x. number x < n) xs 0 place
  pub here : (d : X) → number (slice_index_or xs place d) ≡ n

-- no item has the number, and one that had would stand at this place
pub record IsMissing {X : Type 0} (number : X → ℕ) (n : ℕ) (xs : List X) (place : ℕ) : Type 0 where
  pub within : place ≤ length xs
  pub front : AllWithin (λ x. number x < n) xs 0 place
  pub rest : AllWithin (λ x. n < number x) xs place (length xs)

-- the items in order, and for how many more there is room
pub record KeptSorted (X : Type 0) : Type 0 where
  pub list : List X
  pub spare : ℕ
