use Rattle.std.proofs.Common.{None}
use Rattle.lang_lists.proofs.SearchLemmas.{IsSought}
use Rattle.journal_rows.specs.Keys.{row_key}
use Rattle.service_reports.specs.Changed.{asked_outside_step}
use Rattle.service_reports.proofs.changed.asked_outside.Given as goal

abbrev pub invariant-loop-end : goal.invariant-loop-end
invariant-loop-end l = IsSought row_key (asked_outside_step l.id) l.id None l.rows.rows l.end

abbrev pub decreases-loop-end : goal.decreases-loop-end
decreases-loop-end l = l.end
