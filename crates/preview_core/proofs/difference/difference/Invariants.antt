use Rattle.std.proofs.Common.{◌≡◌, ◌+◌, ◌++◌, length}
use Rattle.preview_core.specs.Differences.{difference}
use Rattle.preview_core.proofs.difference.difference.Given as goal

abbrev pub invariant-loop-old : goal.invariant-loop-old
invariant-loop-old l = l.writes ++ difference l.old l.new ≡ difference l.before l.after

abbrev pub decreases-loop-old : goal.decreases-loop-old
decreases-loop-old l = length l.old + length l.new
