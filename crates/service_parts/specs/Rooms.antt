-- Room for the abandonment of flights.
use Rattle.std.specs.Prelude.{ℕ, List, length}
use Rattle.std.specs.List.{sum_by}
use Rattle.flights.specs.declared.flight.Flight.{Flight}

-- how many calls these flights have together
abbrev pub aloft : List Flight → ℕ
aloft flights = sum_by (λ (f : Flight). length f.calls) flights
