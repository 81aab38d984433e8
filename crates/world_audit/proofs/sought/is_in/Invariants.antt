use Rattle.std.proofs.Common.{false}
use Rattle.lang_lists.proofs.SearchLemmas.{IsSought}
use Rattle.journal_rows.specs.Keys.{row_key}
use Rattle.world_audit.specs.Sought.{key_of}
use Rattle.world_audit.proofs.SoughtLemmas.{or_sought}
use Rattle.world_audit.proofs.sought.is_in.Given as goal

abbrev pub invariant-loop-end : goal.invariant-loop-end
invariant-loop-end l = IsSought row_key (or_sought l.sought) (key_of l.sought) false l.journal.rows l.end

abbrev pub decreases-loop-end : goal.decreases-loop-end
decreases-loop-end l = l.end
