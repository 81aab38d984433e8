use Rattle.std.proofs.Common.{ap, find, ◌∙◌}
use Rattle.request_log.specs.Entries.{has_id}
use Rattle.service_events.specs.Orders.{unless_replaced}
use Rattle.service_parts.specs.Parts.{kept}
use Rattle.service_repairs.proofs.NamedLemmas.{behind_by, recent_replaced}
use Rattle.service_repairs.proofs.resolving.unless_own.Goals as goal

pub returns-in-None : goal.returns-in-None
returns-in-None c =
    let p = c.args.parts.now in
    let id = c.args.id in
    ap (unless_replaced id (kept p)) (behind_by p id _ c.requires (c.in-None.ensures ∙ ap (find (has_id id)) c.log.ensures.entries))

pub returns-in-Some : goal.returns-in-Some
returns-in-Some c =
    let p = c.args.parts.now in
    let id = c.args.id in
    c.unless_outside.ensures ∙ recent_replaced (kept p) id c.in-Some.entry.now c.requires
    ∙ ap (unless_replaced id (kept p)) (behind_by p id _ c.requires (c.in-Some.ensures ∙ ap (find (has_id id)) c.log.ensures.entries))
