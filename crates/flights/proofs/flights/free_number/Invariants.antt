use Rattle.std.proofs.Common.{◌≡◌, ◌+◌, drop}
use Rattle.flights.specs.Numbers.{free_from}
use Rattle.flights.proofs.flights.free_number.Given as goal

abbrev pub invariant-loop-flight : goal.invariant-loop-flight
invariant-loop-flight l =
    record {
      next : l.id ≡ l.flight-index + 1;
      free : free_from l.id (drop l.flight-index l.list) ≡ free_from 1 l.list;
    }
