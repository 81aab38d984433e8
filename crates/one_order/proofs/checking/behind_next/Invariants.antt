use Rattle.std.proofs.Common.{◌≡◌, length}
use Rattle.one_order.specs.Logs.{acts_of}
use Rattle.one_world.specs.Checks.{behind_next}
use Rattle.one_order.proofs.checking.behind_next.Given as goal

abbrev pub invariant-loop-left : goal.invariant-loop-left
invariant-loop-left l = behind_next l.id (acts_of l.left) ≡ behind_next l.id (acts_of l.fn.left)

abbrev pub decreases-loop-left : goal.decreases-loop-left
decreases-loop-left l = length l.left
