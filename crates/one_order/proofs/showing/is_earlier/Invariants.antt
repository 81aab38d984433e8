use Rattle.std.proofs.Common.{◌≡◌, length}
use Rattle.one_order.specs.Cycles.{is_earlier}
use Rattle.one_order.proofs.showing.is_earlier.Given as goal

abbrev pub invariant-loop-left : goal.invariant-loop-left
invariant-loop-left l = is_earlier l.left l.right ≡ is_earlier l.fn.left l.fn.right

abbrev pub decreases-loop-left : goal.decreases-loop-left
decreases-loop-left l = length l.left
