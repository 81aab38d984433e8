-- What is known of the calls of entries and flights: each is wanted under its number.
use Rattle.std.proofs.Common.{◌≡◌, ℕ, List, [], ◌∷◌, ◌++◌, Option, Some, None, IsSome, All, map, refl}
use Rattle.lang_core.specs.declared.trace.CallMade.{CallMade}
use Rattle.call_registers.specs.Registers.{register}
use Rattle.call_registers.specs.declared.register.Register.{Register}
use Rattle.flights.specs.declared.flight.Flight.{Flight}
use Rattle.service_events.specs.Fits.{Fits, WantsItsCalls, NumberedCalls, calls_of_entry, calls_of_flight, call_in, wanted_call}
use Rattle.service_events.specs.State.{Kept, has_flight, flight_of}
use Rattle.service_events.proofs.CallRowLemmas.{Each, each_front, each_behind, each_of_all, all_of_each}
use Rattle.service_events.proofs.SearchLemmas.{found_all}

-- what holds of each number whose call is wanted holds of these
pub wanted_each : (registers : List Register) (P : ℕ → Type 0) → ((n : ℕ) (c : CallMade) → wanted_call registers n ≡ Some c → P n) → (ns : List ℕ) (cs : List CallMade)
    → map (wanted_call registers) ns ≡ map Some cs → Each P ns
wanted_each registers P f [] cs e = tt
wanted_each registers P f (n ∷ ns) [] e = cc
wanted_each registers P f (n ∷ ns) (c ∷ cs) e = (f n c (head_is e), wanted_each registers P f ns cs (tail_is e))
  where
    head_is : wanted_call registers n ∷ map (wanted_call registers) ns ≡ Some c ∷ map Some cs → wanted_call registers n ≡ Some c
    head_is e = cc

    tail_is : wanted_call registers n ∷ map (wanted_call registers) ns ≡ Some c ∷ map Some cs → map (wanted_call registers) ns ≡ map Some cs
    tail_is e = cc

-- what holds of each call that is wanted holds of these
pub wanted_calls : (registers : List Register) (P : CallMade → Type 0) → ((n : ℕ) (c : CallMade) → wanted_call registers n ≡ Some c → P c) → (ns : List ℕ) (cs : List CallMade)
    → map (wanted_call registers) ns ≡ map Some cs → Each P cs
wanted_calls registers P f ns [] e = tt
wanted_calls registers P f [] (c ∷ cs) e = cc
wanted_calls registers P f (n ∷ ns) (c ∷ cs) e = (f n c (head_is e), wanted_calls registers P f ns cs (tail_is e))
  where
    head_is : wanted_call registers n ∷ map (wanted_call registers) ns ≡ Some c ∷ map Some cs → wanted_call registers n ≡ Some c
    head_is e = cc

    tail_is : wanted_call registers n ∷ map (wanted_call registers) ns ≡ Some c ∷ map Some cs → map (wanted_call registers) ns ≡ map Some cs
    tail_is e = cc

each_of_map : {X Y : Type 0} (P : Y → Type 0) (f : X → Y) (xs : List X) → Each P (map f xs) → Each (λ x. P (f x)) xs
each_of_map P f [] h = tt
each_of_map P f (x ∷ xs) h = (h.0, each_of_map P f xs h.1)

module _ (s : Kept) (fits : Fits s) where
  abbrev Wants : NumberedCalls → Type 0
  Wants p = WantsItsCalls s.registers p

  all_places : Each Wants (map calls_of_entry s.entries ++ map calls_of_flight s.flights)
  all_places = each_of_all Wants (map calls_of_entry s.entries ++ map calls_of_flight s.flights) fits.places.calls

  pub entries_want : All (λ e. WantsItsCalls s.registers (calls_of_entry e)) s.entries
  entries_want =
      all_of_each (λ e. Wants (calls_of_entry e)) s.entries
      (each_of_map Wants calls_of_entry s.entries (each_front Wants (map calls_of_entry s.entries) (map calls_of_flight s.flights) all_places))

  pub flights_want : All (λ f. WantsItsCalls s.registers (calls_of_flight f)) s.flights
  flights_want =
      all_of_each (λ f. Wants (calls_of_flight f)) s.flights
      (each_of_map Wants calls_of_flight s.flights (each_behind Wants (map calls_of_entry s.entries) (map calls_of_flight s.flights) all_places))

  pub flight_wants : (id : ℕ) (f : Flight) → flight_of id s ≡ Some f → WantsItsCalls s.registers (calls_of_flight f)
  flight_wants id f found = found_all (λ g. WantsItsCalls s.registers (calls_of_flight g)) (has_flight id) s.flights f flights_want found

call_there : (o : Option Register) (c : CallMade) → call_in o ≡ Some c → IsSome o
call_there None c e = cc
call_there (Some r) c e = refl

pub numbers_there : (s : Kept) (f : Flight) → WantsItsCalls s.registers (calls_of_flight f) → Each (λ n. IsSome (register n s.registers)) f.numbers
numbers_there s f wants =
    wanted_each s.registers (λ n. IsSome (register n s.registers)) (λ n c e. call_there (register n s.registers) c e) f.numbers f.calls wants
