use Rattle.std.proofs.Common.{◌∙◌, ap}
use Rattle.service_events.specs.State.{program_for}
use Rattle.service_parts.specs.Parts.{kept}
use Rattle.service_deliveries.proofs.making.spot_of.Goals as goal

pub returns-clause-program : goal.returns-clause-program
returns-clause-program c = c.program_for-program.ensures ∙ ap (program_for (kept c.args.parts.now)) c.created_place-at.ensures.place
