use Rattle.std.proofs.Common.{None}
use Rattle.lang_lists.specs.Keys.{call_key}
use Rattle.lang_lists.proofs.SearchLemmas.{IsSought}
use Rattle.journal_rows.specs.Keys.{row_key}
use Rattle.journal_rows.specs.Words.{given_step}
use Rattle.journal_rows.proofs.versions.given_at.Given as goal

abbrev pub invariant-loop-end : goal.invariant-loop-end
invariant-loop-end l = IsSought row_key (given_step l.caller l.number l.answer_version) (call_key l.caller l.number) None l.rows l.end

abbrev pub decreases-loop-end : goal.decreases-loop-end
decreases-loop-end l = l.end
