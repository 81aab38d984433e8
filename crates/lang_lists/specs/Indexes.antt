-- What contracts see of an index.
use Rattle.std.specs.Prelude.{ℕ, ◌-◌, List, nat_eq, min, if◌then◌else◌}

-- its keys in order, and at least how many more go in without memory
pub record KeptIndex : Type 0 where
  pub keys : List ℕ
  pub spare : ℕ

-- an end is a number of 32 bits, and stays one when it is raised by one
abbrev pub most_keys : ℕ
most_keys = 4294967294

-- how many go in, by the number of buckets, the spare places of both lists, and how many keys there are
abbrev pub spare_of : ℕ → ℕ → ℕ → ℕ → ℕ
spare_of buckets keys before count = if nat_eq buckets 0 then 0 else min (min keys before) (most_keys - count)
