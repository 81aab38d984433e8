-- What a link tells before an exchange and after it.
use Rattle.std.specs.Prelude.{◌≡◌, ℕ, Bool, true, false, List, [], ◌∷◌, ◌++◌, Option, Some, ⊤}
use Rattle.std.specs.Option.{ForSome}
use Rattle.io_links.specs.declared.links.Exchange.{Exchange}
use Rattle.io_links.specs.declared.links.Exchange.TheVariants.{Reply, NoMemory, Failed}
use Rattle.io_links.specs.declared.links.Exchanged.{Exchanged}

-- What a link tells: the exchanges that it made, in order, where it tells them, and how many of them have failed, up to the
-- greatest u64.
pub record Exchanges : Type 0 where
  pub made : Option (List Exchanged)
  pub faults : ℕ

-- a link that made no exchange so far, and tells them where the other does
abbrev pub IsAnother : Exchanges → Exchanges → Type 0
IsAnother one other = (other.faults ≡ 0) × ForSome one.made (λ _. other.made ≡ Some [])

-- one exchange more was made: with this address, of these bytes, with this answer
abbrev pub Made : Exchanges → Exchanges → List ℕ → List ℕ → Exchange → Type 0
Made before now address bytes answer =
    ForSome before.made (λ all. now.made ≡ Some (all ++ record { address = address; bytes = bytes; answer = answer } ∷ []))

-- what an exchange leaves: it was made, or there was no memory for it and the link tells what it told
abbrev pub Leaves : Exchanges → Exchanges → List ℕ → List ℕ → Exchange → Type 0
Leaves before now address bytes (Reply reply) = Made before now address bytes (Reply reply)
Leaves before now address bytes NoMemory = now ≡ before
Leaves before now address bytes (Failed note) = Made before now address bytes (Failed note)

-- a failure tells the count of faults before and after
abbrev pub Notes : Exchanges → Exchanges → Exchange → Type 0
Notes before now (Reply reply) = ⊤
Notes before now NoMemory = ⊤
Notes before now (Failed note) = (note.before ≡ before.faults) × (note.after ≡ now.faults)

-- whether there was no memory for an exchange
abbrev pub wants_memory : Exchange → Bool
wants_memory (Reply reply) = false
wants_memory NoMemory = true
wants_memory (Failed note) = false

-- the exchange failed
abbrev pub IsFailure : Exchange → Type 0
IsFailure (Reply reply) = ⊥
IsFailure NoMemory = ⊥
IsFailure (Failed note) = ⊤
