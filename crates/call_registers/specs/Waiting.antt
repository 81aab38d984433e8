-- Calls whose last version isn't acknowledged, and those of which an answer is to be fetched, by where they go and since when.
use Rattle.std.specs.Prelude.{ℕ, ◌≤◌, List, Option, Some, None, if◌then◌else◌, nat_lt, length}
use Rattle.std.specs.Option.{option_and_then}
use Rattle.lang_lists.specs.Keys.{text_key}
use Rattle.lang_lists.specs.declared.age_keys.AgeKey.{AgeKey}
use Rattle.call_registers.specs.Queues.{AreOldestFirst, IsQueue}
use Rattle.call_registers.specs.Registers.{owes_fetch, register, IsNumbered}
use Rattle.call_registers.specs.declared.register.Register.{Register}

abbrev pub age_key : Register → AgeKey
age_key r = record { code = text_key r.dest; since = r.since; number = r.number }

-- the key of a call whose last version isn't acknowledged
abbrev pub waiting_key : Register → Option AgeKey
waiting_key r = if nat_lt r.acked r.version then Some (age_key r) else None

-- that of the call of a number
abbrev pub key_of : List Register → ℕ → Option AgeKey
key_of registers number = option_and_then waiting_key (register number registers)

-- these are the keys of the calls to services whose names have the key of this name, the oldest first
abbrev pub AreWaiting : List ℕ → List Register → List AgeKey → Type 0
AreWaiting dest registers keys = AreOldestFirst (text_key dest) (key_of registers) keys

-- ---- fetches

abbrev pub noted_key : Register → AgeKey
noted_key r = record { code = text_key r.dest; since = r.noted_since; number = r.number }

-- the key of a call of which an answer is to be fetched
abbrev pub fetch_key : Register → Option AgeKey
fetch_key r = if owes_fetch r then Some (noted_key r) else None

-- that of the call of a number
abbrev pub fetch_key_of : List Register → ℕ → Option AgeKey
fetch_key_of registers number = option_and_then fetch_key (register number registers)

-- these are the keys of such calls to services whose names have the key of this name, the oldest first
abbrev pub AreFetched : List ℕ → List Register → List AgeKey → Type 0
AreFetched dest registers keys = AreOldestFirst (text_key dest) (fetch_key_of registers) keys

-- ---- what is kept

-- what contracts see of both queues: their keys, and for how many each has places
pub record KeptQueues : Type 0 where
  pub waiting : List AgeKey
  pub fetched : List AgeKey
  pub places : ℕ

-- what contracts see of a list of registers with queues of their keys: the registers, and for how many there are places
pub record KeptList : Type 0 where
  pub list : List Register
  pub places : ℕ

-- registers in the order of their numbers, with their keys, and places for as many keys
pub record IsListed (registers : List Register) (queues : KeptQueues) : Type 0 where
  pub numbered : IsNumbered registers
  pub waiting : IsQueue waiting_key registers queues.waiting
  pub fetched : IsQueue fetch_key registers queues.fetched
  pub fits : length registers ≤ queues.places
