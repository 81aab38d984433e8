use Rattle.std.proofs.Common.{List, ◌∙◌, ap}
use Rattle.journal_rows.specs.declared.row.Row.{Row}
use Rattle.service_events.specs.Calls.{noted}
use Rattle.service_parts.specs.Parts.{kept}
use Rattle.service_requests.proofs.calls.draft_of_answer.Goals as goal

pub returns : goal.returns
returns c =
    c.in_ok-note.ensures ∙ ap (noted c.in_ok-rows.rows.items) (c.start-draft.ensures (kept c.args.parts.now))
    ∙ ap (λ (rows : List Row). noted rows (kept c.args.parts.now)) c.in_ok-rows.ensures
