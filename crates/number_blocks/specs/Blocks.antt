-- A list of numbers that is kept in blocks.
use Rattle.std.specs.Prelude.{ℕ, ◌≡◌, ◌+◌, ◌<◌, ◌≤◌, Bool, false, List, [], ◌∷◌, length, take, slice_index_or}
use Rattle.std.specs.List.{AllByRecursion, concat}

-- what contracts see: the numbers of the list, and the blocks that they stand in
pub record KeptBlocks : Type 0 where
  pub items : List ℕ
  pub blocks : List (List ℕ)

-- how many numbers stand before a block
abbrev pub start_of : ℕ → List (List ℕ) → ℕ
start_of block blocks = length (concat (take block blocks))

-- where blocks begin that stand one after the other, the first of them here
abbrev pub starts_from : ℕ → List (List ℕ) → List ℕ
starts_from here [] = []
starts_from here (b ∷ bs) = here ∷ starts_from (here + length b) bs

-- none of these blocks is empty, and they begin at these places
pub record AreBlocks (blocks : List (List ℕ)) (places : List ℕ) : Type 0 where
  pub starts : places ≡ starts_from 0 blocks
  pub some : AllByRecursion (λ b. 0 < length b) blocks

-- a place of the list is one of a block, or the end of the last one
pub record StandsIn (place : ℕ) (blocks : List (List ℕ)) (block : ℕ) : Type 0 where
  pub within : block < length blocks
  pub from : start_of block blocks ≤ place
  pub to : place ≤ start_of block blocks + length (slice_index_or blocks block [])
  pub inside : place < length (concat blocks) → place < start_of block blocks + length (slice_index_or blocks block [])

-- the first number of a block passes
abbrev pub begins : (ℕ → Bool) → List ℕ → Bool
begins passes [] = false
begins passes (n ∷ ns) = passes n
