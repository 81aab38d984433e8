-- Keys in the order of age, and what an exchange of one makes of them.
use Rattle.std.specs.Prelude.{ℕ, ◌≡◌, ◌+◌, Bool, false, ◌&&◌, ◌||◌, List, Option, Some, None, nat_eq, nat_lt, filter}
use Rattle.std.specs.List.{AllPairs, sum_by}
use Rattle.lang_lists.specs.declared.age_keys.AgeKey.{AgeKey}

-- by code, of one code by age, and of one age by number
abbrev pub is_before : AgeKey → AgeKey → Bool
is_before a b =
    nat_lt a.code b.code || nat_eq a.code b.code && (nat_lt a.since b.since || nat_eq a.since b.since && nat_lt a.number b.number)

-- no key comes before one that stands ahead of it
abbrev pub IsRising : List AgeKey → Type 0
IsRising keys = AllPairs (λ a b. is_before b a ≡ false) keys

-- the keys of a code
abbrev pub of_code : ℕ → List AgeKey → List AgeKey
of_code code keys = filter (λ (k : AgeKey). nat_eq k.code code) keys

-- what contracts see of a queue: its keys, and how many it has places for
pub record KeptQueue : Type 0 where
  pub keys : List AgeKey
  pub places : ℕ

-- what a key adds to a sum over keys, where there is one
abbrev pub weigh : (AgeKey → ℕ) → Option AgeKey → ℕ
weigh f None = 0
weigh f (Some k) = f k

-- a sum over keys by this is how many there are
abbrev pub each_once : AgeKey → ℕ
each_once k = 1

-- the one key out and the other in; told by sums over the keys, of whichever numbers: so each key stands there as often as
-- it should, wherever that is
abbrev pub IsExchanged : Option AgeKey → Option AgeKey → List AgeKey → List AgeKey → Type 0
IsExchanged before after old new = (f : AgeKey → ℕ) → sum_by f new + weigh f before ≡ sum_by f old + weigh f after
