use Rattle.std.proofs.Common.{◌≡◌, ◌+◌, take}
use Rattle.service_parts.specs.Rooms.{aloft}
use Rattle.service_parts.proofs.applying.with_aloft.Given as goal

abbrev pub invariant-loop-flight : goal.invariant-loop-flight
invariant-loop-flight l = l.sum ≡ l.initial.sum + aloft (take l.flight-index l.flights)
