use Rattle.std.proofs.Common.{◌≡◌, take, map}
use Rattle.local_repair.proofs.current.answers_hold.Given as goal

abbrev pub invariant-loop-i : goal.invariant-loop-i
invariant-loop-i g l = take l.i l.answers ≡ map (g.S.Slots.consumed_of l.slots) (take l.i l.numbers)
