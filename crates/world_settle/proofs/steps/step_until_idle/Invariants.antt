use Rattle.world_settle.specs.Settles.{IsStepping, entries_of}
use Rattle.world_settle.proofs.EventLemmas.{Goes}
use Rattle.world_settle.proofs.steps.step_until_idle.Given as goal

abbrev pub invariant-loop-left : goal.invariant-loop-left
invariant-loop-left l =
    Goes l.initial.world (IsStepping l.name (entries_of l.name l.initial.world)) l.initial.tally l.tally l.world (IsStepping l.name l.left)

abbrev pub decreases-loop-left : goal.decreases-loop-left
decreases-loop-left l = l.left
