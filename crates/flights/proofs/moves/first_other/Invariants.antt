use Rattle.std.proofs.Common.{◌≡◌, take}
use Rattle.flights.specs.Moves.{calls_in}
use Rattle.flights.proofs.moves.first_other.Given as goal

abbrev pub invariant-loop-slot : goal.invariant-loop-slot
invariant-loop-slot l = take l.slot l.olds ≡ take l.slot (calls_in l.ran)
