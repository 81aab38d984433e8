use Rattle.world_core.proofs.PacketLemmas.{IsFirst}
use Rattle.world_core.proofs.packets.first_call.Given as goal

abbrev pub invariant-loop-end : goal.invariant-loop-end
invariant-loop-end l = IsFirst l.caller l.number l.packets l.end l.first

abbrev pub decreases-loop-end : goal.decreases-loop-end
decreases-loop-end l = l.end
