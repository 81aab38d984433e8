use Rattle.std.specs.Option.{option_copied}
use Rattle.node_core.proofs.AskedLemmas.{IsMadeSo}
use Rattle.node_core.proofs.closing.asked.Given as goal

abbrev pub invariant-loop-end : goal.invariant-loop-end
invariant-loop-end l = IsMadeSo l.id l.rows.rows l.end (option_copied l.first)

abbrev pub decreases-loop-end : goal.decreases-loop-end
decreases-loop-end l = l.end
