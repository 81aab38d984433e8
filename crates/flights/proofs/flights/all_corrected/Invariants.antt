use Rattle.std.proofs.Common.{◌≡◌, map, take}
use Rattle.flights.specs.Corrections.{corrected_flight}
use Rattle.flights.proofs.flights.all_corrected.Given as goal

abbrev pub invariant-loop-flight : goal.invariant-loop-flight
invariant-loop-flight l = l.list.list ≡ map (corrected_flight l.number l.program) (take l.flight-index l.flights)
