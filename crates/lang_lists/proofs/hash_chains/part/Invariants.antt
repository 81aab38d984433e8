use Rattle.std.proofs.Common.{length}
use Rattle.lang_lists.proofs.InsertLemmas.{IsBack}
use Rattle.lang_lists.proofs.hash_chains.part.Given as goal

abbrev pub invariant-loop-end : goal.invariant-loop-end
invariant-loop-end l = IsBack (length l.last) l.bucket l.at l.keys l.end l.behind

abbrev pub decreases-loop-end : goal.decreases-loop-end
decreases-loop-end l = l.end
