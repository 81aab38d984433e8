-- By which a proof tells two lists of flights apart.
use Rattle.std.specs.Prelude.{ℕ, List, refl}
use Rattle.std.specs.Coded.{Coded, code_by, coded×, coded_ℕ, coded_list}
use Rattle.flights.specs.Numbers.{KeptFlights}
use Rattle.flights.specs.contracts.flight.Flight as flight
use Rattle.flights.specs.declared.flight.Flight.{Flight}

abbrev pub flights_code : Coded KeptFlights
flights_code =
    code_by (List Flight × ℕ)
    (coded× (coded_list flight.the_row.coded) coded_ℕ)
    (λ k. (k.list, k.spare))
    (λ p. record { list = p.0; spare = p.1 })
    (λ _. refl)
