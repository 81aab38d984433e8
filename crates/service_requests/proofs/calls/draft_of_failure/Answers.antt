use Rattle.std.proofs.Common.{◌∙◌, ap}
use Rattle.service_events.specs.Arriving.{told}
use Rattle.service_parts.specs.Parts.{kept}
use Rattle.service_requests.proofs.calls.draft_of_failure.Goals as goal

pub returns : goal.returns
returns c = c.in_ok-tell.ensures ∙ ap (told c.args.number c.args.why) (c.start-draft.ensures (kept c.args.parts.now))
