-- What the outside tells before a call and after it, and what reads and writes do to that.
use Rattle.std.specs.Prelude.{◌≡◌, ◌≢◌, ℕ, ◌+◌, ◌^◌, ◌<◌, ◌≤◌, List, [], ◌++◌, length, Option, Some}
use Rattle.std.specs.Option.{ForSome}

-- What a source tells: the bytes that are left and all that it ever had, where it tells them, and how many of its reads
-- have failed, up to the greatest u64.
pub record Reads : Type 0 where
  pub left : Option (List ℕ)
  pub whole : Option (List ℕ)
  pub faults : ℕ

-- What a sink tells: the bytes that were written, where it tells them, and how many of its writes have failed, up to the
-- greatest u64.
pub record Writes : Type 0 where
  pub written : Option (List ℕ)
  pub faults : ℕ

-- a count went up, unless it stands at the greatest u64
abbrev pub Rose : ℕ → ℕ → Type 0
Rose before now = now + 1 < 2 ^ 64 → before < now

-- ---- reads

-- these bytes stood first in what was left, and the rest is left now
abbrev pub Took : Reads → Reads → List ℕ → Type 0
Took before now bytes = ForSome before.left (λ all. (rest : List ℕ) × (now.left ≡ Some rest) × (all ≡ bytes ++ rest))

-- some bytes were taken, and no more than so many
abbrev pub TookUpTo : ℕ → Reads → Reads → Type 0
TookUpTo most before now = (bytes : List ℕ) × (length bytes ≤ most) × Took before now bytes

-- these bytes were taken so far
abbrev pub Taken : Reads → List ℕ → Type 0
Taken now bytes = ForSome now.whole (λ all. (rest : List ℕ) × (now.left ≡ Some rest) × (all ≡ bytes ++ rest))

-- nothing is left
abbrev pub IsAtEnd : Reads → Type 0
IsAtEnd now = ForSome now.left (λ rest. rest ≡ [])

-- a read failed
abbrev pub ReadFails : Reads → Reads → Type 0
ReadFails before now = Rose before.faults now.faults

-- ---- writes

-- these bytes were written behind what stood there
abbrev pub Wrote : Writes → Writes → List ℕ → Type 0
Wrote before now bytes = ForSome before.written (λ all. now.written ≡ Some (all ++ bytes))

-- the bytes begin with this front
abbrev pub IsFront : List ℕ → List ℕ → Type 0
IsFront front bytes = (rest : List ℕ) × (bytes ≡ front ++ rest)

-- a front of these bytes, perhaps all or none of them, was written behind what stood there
abbrev pub WroteFront : Writes → Writes → List ℕ → Type 0
WroteFront before now bytes = (front : List ℕ) × IsFront front bytes × Wrote before now front

-- a front of these bytes, perhaps none of them but not all, was written behind what stood there
abbrev pub WroteShort : Writes → Writes → List ℕ → Type 0
WroteShort before now bytes =
    (front : List ℕ) × (rest : List ℕ) × (bytes ≡ front ++ rest) × (rest ≢ []) × Wrote before now front

-- a write failed
abbrev pub WriteFails : Writes → Writes → Type 0
WriteFails before now = Rose before.faults now.faults
