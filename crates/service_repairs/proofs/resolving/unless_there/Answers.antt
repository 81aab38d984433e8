use Rattle.std.proofs.Common.{ap, find, sym, ◌∙◌}
use Rattle.request_log.specs.Entries.{has_id}
use Rattle.service_events.specs.Orders.{unless_present}
use Rattle.service_parts.specs.Parts.{kept}
use Rattle.service_repairs.proofs.NamedLemmas.{behind_by}
use Rattle.service_repairs.proofs.resolving.unless_there.Goals as goal

pub returns-in-None : goal.returns-in-None
returns-in-None c =
    let p = c.args.parts.now in
    let id = c.args.id in
    ap (unless_present id (kept p)) (behind_by p id _ c.requires (c.in-None.ensures ∙ ap (find (has_id id)) c.log.ensures.entries))

pub returns-in-Some : goal.returns-in-Some
returns-in-Some c =
    let p = c.args.parts.now in
    let id = c.args.id in
    sym c.requires ∙ ap (unless_present id (kept p)) (behind_by p id _ c.requires (c.in-Some.ensures ∙ ap (find (has_id id)) c.log.ensures.entries))
