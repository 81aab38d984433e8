-- What contracts see of records that were handed over, and of the tokens that tell of them.
use Rattle.std.specs.Prelude.{ℕ, List}

-- records that wait, and how many were handed over in all
pub record Handing : Type 0 where
  pub pending : List (List ℕ)
  pub handed : ℕ

-- records on their way to a store, the last of which has this number
pub record Moving : Type 0 where
  pub texts : List (List ℕ)
  pub upto : ℕ

-- what was seen rests on the records up to this number
pub record Resting : Type 0 where
  pub at : ℕ

-- the records up to this number are safe
pub record Covering : Type 0 where
  pub upto : ℕ
