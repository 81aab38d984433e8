use Rattle.std.proofs.Common.{None}
use Rattle.lang_lists.proofs.SearchLemmas.{IsSought}
use Rattle.journal_rows.specs.Keys.{row_key}
use Rattle.service_reports.specs.Changed.{answer_outside_step}
use Rattle.service_reports.proofs.changed.answer_outside.Given as goal

abbrev pub invariant-loop-end : goal.invariant-loop-end
invariant-loop-end l = IsSought row_key (answer_outside_step l.which l.id) l.id None l.rows.rows l.end

abbrev pub decreases-loop-end : goal.decreases-loop-end
decreases-loop-end l = l.end
