use Rattle.std.proofs.Common.{◌≡◌, take}
use Rattle.service_core.specs.Programs.{by_numbers}
use Rattle.service_core.proofs.ProgramLemmas.{of_flights}
use Rattle.service_core.proofs.programs.put_flights.Given as goal

abbrev pub invariant-loop-flight : goal.invariant-loop-flight
invariant-loop-flight l = l.programs.list ≡ by_numbers l.initial.programs.list (of_flights (take l.flight-index l.flights))
