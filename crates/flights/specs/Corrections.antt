-- Flights under another program.
use Rattle.std.specs.Prelude.{ℕ, Bool, if◌then◌else◌, nat_eq}
use Rattle.handler_run.specs.HandedOn.{Numbered}
use Rattle.flights.specs.declared.flight.Flight.{Flight}

-- the flight's program has this number
abbrev pub has_program : ℕ → Flight → Bool
has_program number f = nat_eq f.program.number number

-- a flight once this program stands in place of that of a number; nothing else of it changes
abbrev pub corrected_flight : ℕ → Numbered → Flight → Flight
corrected_flight number program f = if has_program number f then record f { program = program } else f
