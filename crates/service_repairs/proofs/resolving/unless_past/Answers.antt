use Rattle.std.proofs.Common.{ap, find, ◌∙◌}
use Rattle.request_log.specs.Folded.{has_number}
use Rattle.service_repairs.proofs.NamedLemmas.{past_by}
use Rattle.service_repairs.proofs.resolving.unless_past.Goals as goal

pub returns-in-None : goal.returns-in-None
returns-in-None c = past_by c.args.parts.now c.args.id _ (c.in-None.ensures ∙ ap (find (has_number c.args.id)) c.log.ensures.folded)

pub returns-in-Some : goal.returns-in-Some
returns-in-Some c = past_by c.args.parts.now c.args.id _ (c.in-Some.ensures ∙ ap (find (has_number c.args.id)) c.log.ensures.folded)
