-- How much was taken from a source.
use Rattle.std.proofs.Common.{◌≡◌, ℕ, ◌+◌, ◌≤◌, List, [], ◌++◌, length, length-append, arith}
use Rattle.io_edge.specs.Edge.{Reads, Took, TookUpTo}
use Rattle.io_edge.proofs.Pieces.{took_more, took_none}

-- these bytes, and no more
pub up_to : (most : ℕ) (a b : Reads) (xs : List ℕ) → Took a b xs → length xs ≤ most → TookUpTo most a b
up_to most a b xs took few = (xs, few, took)

-- nothing
pub up_to_none : (most : ℕ) (a b : Reads) → b.left ≡ a.left → TookUpTo most a b
up_to_none most a b same = ([], omega arith, took_none a b same)

-- these bytes, and then up to so many
pub up_to_more : (most : ℕ) (a b c : Reads) (xs : List ℕ) (n : ℕ) → Took a b xs → TookUpTo n b c → length xs + n ≤ most → TookUpTo most a c
up_to_more most a b c xs n first second few = (
  xs ++ second.0,
  omega (arith, length-append xs second.0, second.1, few),
  took_more a b c xs second.0 first second.2,
)

-- up to so many, and then up to so many more
pub up_to_both : (most : ℕ) (a b c : Reads) (m n : ℕ) → TookUpTo m a b → TookUpTo n b c → m + n ≤ most → TookUpTo most a c
up_to_both most a b c m n first second few = up_to_more most a b c first.0 n first.2 second (omega (arith, first.1, few))

-- no more than so many is no more than more
pub up_to_weaker : (most : ℕ) (a b : Reads) (n : ℕ) → TookUpTo n a b → n ≤ most → TookUpTo most a b
up_to_weaker most a b n taken few = (taken.0, omega (arith, taken.1, few), taken.2)
