use Rattle.node_run.proofs.SettlingLemmas.{Going}
use Rattle.node_run.proofs.settling.step_until_idle.Given as goal

abbrev pub invariant-loop-left : goal.invariant-loop-left
invariant-loop-left l = Going l.initial.service l.service l.left

abbrev pub decreases-loop-left : goal.decreases-loop-left
decreases-loop-left l = l.left
