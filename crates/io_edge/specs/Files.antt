-- What files tell before a load and after it, and what a load does to that.
use Rattle.std.specs.Prelude.{◌≡◌, ℕ, ◌<◌, List, [], ◌∷◌, ◌++◌, length, Option, Some}
use Rattle.std.specs.Option.{ForSome}
use Rattle.io_edge.specs.Edge.{Rose}

-- What files tell: the bytes of the file of each path, None where there is no such file, where they tell them; the paths
-- that were asked for, in order; and how many loads have failed, up to the greatest u64.
pub record Loads : Type 0 where
  pub files : Option (List ℕ → Option (List ℕ))
  pub asked : List (List ℕ)
  pub faults : ℕ

-- these are all the bytes of the file of this path
abbrev pub IsFile : Loads → List ℕ → List ℕ → Type 0
IsFile before path bytes = ForSome before.files (λ at. at path ≡ Some bytes)

-- the file of this path has more bytes than the limit
abbrev pub IsLonger : Loads → List ℕ → ℕ → Type 0
IsLonger before path limit = ForSome before.files (λ at. (bytes : List ℕ) × (at path ≡ Some bytes) × (limit < length bytes))

-- this path was asked for, and no other
abbrev pub AskedFor : Loads → Loads → List ℕ → Type 0
AskedFor before now path = now.asked ≡ before.asked ++ path ∷ []

-- nothing was asked for
abbrev pub AskedNothing : Loads → Loads → Type 0
AskedNothing before now = now.asked ≡ before.asked

-- a load failed
abbrev pub LoadFails : Loads → Loads → Type 0
LoadFails before now = Rose before.faults now.faults
