use Rattle.std.proofs.Common.{Some}
use Rattle.world_laws.proofs.WorldWeights.{world_weight}
use Rattle.script_run.proofs.Following.{Follows}
use Rattle.script_run.proofs.asking.follow.Given as goal

abbrev pub invariant-loop-next : goal.invariant-loop-next
invariant-loop-next l =
    Follows l.initial.world l.initial.happened.packet (Some (l.initial.detail, l.initial.happened)) l.world l.next (Some (l.detail, l.happened))

abbrev pub decreases-loop-next : goal.decreases-loop-next
decreases-loop-next l = world_weight l.world l.next
