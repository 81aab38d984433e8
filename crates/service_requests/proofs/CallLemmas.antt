-- The failure of a call for which a flight waits.
use Rattle.std.proofs.Common.{◌≡◌, ◌∙◌, sym, ap, ℕ, Some, Err, nat_eq, eq-eqb}
use Rattle.std.proofs.lemmas.Bool.{cond-true}
use Rattle.call_registers.specs.declared.register.Why.{Why}
use Rattle.flights.specs.declared.flight.Flight.{Flight}
use Rattle.service_events.specs.State.{Kept, after, flight_of}
use Rattle.service_events.specs.Arriving.{accepted, told, failed_flight, call_failed_event}
use Rattle.service_events.specs.Flying.{awaited, goes_on}
use Rattle.service_events.specs.declared.refusals.CallRefused.TheVariants.{NoFlight}

-- the flight that waits for it goes on
pub failed_is : (s : Kept) (id number : ℕ) (why : Why) (f : Flight) → flight_of id s ≡ Some f → awaited f ≡ number
    → accepted (goes_on (told number why s) f) ≡ call_failed_event s id number why
failed_is s id number why f found same =
    sym (ap (failed_flight s id number why) found
    ∙ cond-true (nat_eq (awaited f) number) (accepted (goes_on (told number why s) f)) (after s (Err (NoFlight id))) (eq-eqb (awaited f) number same))
