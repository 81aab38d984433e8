use Rattle.std.proofs.Common.{◌∙◌, ap}
use Rattle.service_events.specs.Calls.{noted}
use Rattle.service_parts.specs.Parts.{kept}
use Rattle.service_deliveries.proofs.noting.drafted.Goals as goal

pub returns : goal.returns
returns c = c.in_ok-note.ensures ∙ ap (noted c.args.rows.items) (c.start-draft.ensures (kept c.args.parts.now))
