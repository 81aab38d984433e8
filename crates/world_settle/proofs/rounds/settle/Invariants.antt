use Rattle.world_settle.proofs.Parts.{Rounding}
use Rattle.world_settle.proofs.rounds.settle.Given as goal

abbrev pub invariant-loop-left : goal.invariant-loop-left
invariant-loop-left l = Rounding l.initial.world l.rounds l.with_work l.left l.tally l.world

abbrev pub decreases-loop-left : goal.decreases-loop-left
decreases-loop-left l = l.left
