use Rattle.std.proofs.Common.{false}
use Rattle.lang_lists.proofs.SearchLemmas.{IsSought}
use Rattle.node_core.specs.Closings.{row_key}
use Rattle.node_core.proofs.TwiceLemmas.{or_same}
use Rattle.node_core.proofs.twice.earlier.Given as goal

abbrev pub invariant-loop-end : goal.invariant-loop-end
invariant-loop-end g l =
    IsSought (row_key g.T.OfRow.service g.T.OfRow.index) (or_same g.T.OfRow.service g.T.OfRow.index l.item)
    (row_key g.T.OfRow.service g.T.OfRow.index l.item) false l.items l.end

abbrev pub decreases-loop-end : goal.decreases-loop-end
decreases-loop-end g l = l.end
