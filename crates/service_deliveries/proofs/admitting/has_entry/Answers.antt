use Rattle.std.proofs.Common.{ap, is_some, ◌∙◌}
use Rattle.request_log.specs.Entries.{find_call}
use Rattle.service_events.specs.Messages.{origin_of}
use Rattle.service_parts.specs.Parts.{whole_log}
use Rattle.service_deliveries.proofs.TakeLemmas.{none_asked}
use Rattle.service_deliveries.proofs.admitting.has_entry.Goals as goal

pub returns-in-None : goal.returns-in-None
returns-in-None c = ap is_some c.in-None.ensures ∙ none_asked (find_call (origin_of c.args.set.now) (whole_log c.args.parts.now.repairer))

pub returns-in-Some : goal.returns-in-Some
returns-in-Some c = ap is_some c.in-Some.ensures ∙ none_asked (find_call (origin_of c.args.set.now) (whole_log c.args.parts.now.repairer))
