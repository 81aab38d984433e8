use Rattle.std.proofs.Common.{None}
use Rattle.lang_lists.specs.Keys.{text_key}
use Rattle.lang_lists.proofs.SearchLemmas.{IsSought}
use Rattle.journal_rows.specs.Keys.{row_key}
use Rattle.journal_rows.specs.Words.{order_step}
use Rattle.journal_rows.proofs.words.ordered.Given as goal

abbrev pub invariant-loop-end : goal.invariant-loop-end
invariant-loop-end l = IsSought row_key (order_step l.token) (text_key l.token) None l.rows l.end

abbrev pub decreases-loop-end : goal.decreases-loop-end
decreases-loop-end l = l.end
