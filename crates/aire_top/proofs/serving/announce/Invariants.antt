use Rattle.std.proofs.Common.{◌≤◌}
use Rattle.aire_top.proofs.serving.announce.Given as goal

abbrev pub invariant-loop-setup : goal.invariant-loop-setup
invariant-loop-setup g l = g.D.Door.faults l.fn.doors ≤ g.D.Door.faults l.doors
