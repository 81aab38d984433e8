use Rattle.std.proofs.Common.{◌≡◌, ◌∙◌, ap}
use Rattle.create_placement.specs.Placement.{place_among}
use Rattle.service_events.specs.State.{program_for}
use Rattle.service_parts.specs.Parts.{kept}
use Rattle.service_repairs.proofs.OrderLemmas.{place_is}
use Rattle.service_repairs.proofs.programs.made_under.Goals as goal

pub returns : goal.returns
returns c =
    let p = c.args.parts.now in
    let past = c.log.ensures.folded in
    let others = c.log.ensures.entries in
    let same : place_among c.args.before c.args.after c.log.result.now.folded c.log.result.now.entries
    ≡ place_among c.args.before c.args.after p.repairer.folded p.repairer.entries =
    (λ i. place_among c.args.before c.args.after (past i) (others i)) in
    c.program_for.ensures ∙ ap (program_for (kept p)) (place_is p c.place.result c.args.before c.args.after (c.place.ensures.place ∙ same))
