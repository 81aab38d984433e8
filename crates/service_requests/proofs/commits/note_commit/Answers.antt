use Rattle.std.proofs.Common.{◌∙◌, List, ap}
use Rattle.journal_rows.specs.declared.row.Row.{Row}
use Rattle.service_events.specs.Calls.{noted}
use Rattle.service_parts.specs.Drafts.{with_draft}
use Rattle.service_parts.specs.Parts.{kept}
use Rattle.service_requests.proofs.EndLemmas.{commit_noted_is}
use Rattle.service_requests.proofs.commits.note_commit.Goals as goal

pub returns-clause-noted : goal.returns-clause-noted
returns-clause-noted c =
    commit_noted_is (kept c.args.parts.now) c.args.draft.now c.note.new.draft c.note_answer.new.draft c.args.flight.now c.args.trace.now
    (c.in_ok-note.ensures ∙ ap (λ (rs : List Row). noted rs (with_draft c.args.draft.now (kept c.args.parts.now))) c.in_ok-rows.ensures)
    c.in_ok-note_answer.ensures
