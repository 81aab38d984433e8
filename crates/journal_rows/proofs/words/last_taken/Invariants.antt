use Rattle.std.proofs.Common.{None}
use Rattle.lang_lists.specs.Keys.{call_key}
use Rattle.lang_lists.proofs.SearchLemmas.{IsSought}
use Rattle.journal_rows.specs.Keys.{row_key}
use Rattle.journal_rows.specs.Words.{taken_step}
use Rattle.journal_rows.proofs.words.last_taken.Given as goal

abbrev pub invariant-loop-end : goal.invariant-loop-end
invariant-loop-end l = IsSought row_key (taken_step l.caller l.number) (call_key l.caller l.number) None l.rows l.end

abbrev pub decreases-loop-end : goal.decreases-loop-end
decreases-loop-end l = l.end
