-- Flights in the order of their numbers.
use Rattle.std.specs.Prelude.{ℕ, ◌+◌, ◌<◌, ◌≤◌, ◌≡◌, Bool, false, not, List, [], ◌∷◌, Option, None, IsSome, if◌then◌else◌, nat_eq, nat_lt, find, filter, fold, max}
use Rattle.std.specs.List.{list_any}
use Rattle.lang_lists.specs.Numbers.{RisesFrom}
use Rattle.lang_core.specs.Origins.{is_call}
use Rattle.lang_core.specs.declared.ids.Origin.{Origin}
use Rattle.lang_core.specs.declared.ids.Origin.TheVariants.{Outside, Call}
use Rattle.flights.specs.declared.flight.Flight.{Flight}

-- flights in the order of their numbers, and for how many more there is room
pub record KeptFlights : Type 0 where
  pub list : List Flight
  pub spare : ℕ

abbrev pub has_flight : ℕ → Flight → Bool
has_flight id f = nat_eq f.id id

-- the flight of a number, if there is one
abbrev pub flight_in : ℕ → List Flight → Option Flight
flight_in id flights = find (has_flight id) flights

abbrev pub without_flight : ℕ → List Flight → List Flight
without_flight id flights = filter (λ f. not (has_flight id f)) flights

-- before the first one of a greater number
abbrev pub put_flight : Flight → List Flight → List Flight
put_flight f [] = f ∷ []
put_flight f (g ∷ gs) = if nat_lt f.id g.id then f ∷ g ∷ gs else g ∷ put_flight f gs

-- in place of the one of its number, if there is one
abbrev pub with_flight : Flight → List Flight → List Flight
with_flight f flights = put_flight f (without_flight f.id flights)

-- numbers rise, from 1
abbrev pub IsRising : List Flight → Type 0
IsRising flights = RisesFrom (λ (f : Flight). f.id) 1 flights

-- ---- the least free number

-- the least number from this one on that none of these, in the order of their numbers, has
abbrev pub free_from : ℕ → List Flight → ℕ
free_from id [] = id
free_from id (f ∷ fs) = if nat_eq f.id id then free_from (id + 1) fs else id

-- no flight has it, and each less number from 1 on is a flight's
pub record IsLeastFree (number : ℕ) (flights : List Flight) : Type 0 where
  pub from : 1 ≤ number
  pub free : flight_in number flights ≡ None
  pub least : (less : ℕ) → 1 ≤ less → less < number → IsSome (flight_in less flights)

-- ---- origins

-- both are the same call
abbrev pub same_call_origin : Origin → Origin → Bool
same_call_origin Outside o = false
same_call_origin (Call caller number) o = is_call caller number o

-- whether a call with this origin is in flight
abbrev pub is_flying : Origin → List Flight → Bool
is_flying origin flights = list_any (λ (f : Flight). same_call_origin origin f.origin) flights

-- ---- what a flight waits for

-- the number of the call that was named last
abbrev pub awaited : Flight → ℕ
awaited f = fold max 0 f.numbers
