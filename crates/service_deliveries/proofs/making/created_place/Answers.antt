use Rattle.std.proofs.Common.{ℕ, ◌≡◌, ◌+◌, ap, length, ◌∙◌}
use Rattle.create_placement.specs.Placement.{place_among}
use Rattle.service_events.specs.Messages.{neighbour}
use Rattle.service_parts.specs.Parts.{kept}
use Rattle.service_parts.proofs.PlaceLaw.{place_behind_all}
use Rattle.service_deliveries.proofs.making.created_place.Goals as goal

pub returns-clause-place : goal.returns-clause-place
returns-clause-place c =
    let p = c.args.parts.now in
    let set = c.args.set.now in
    let before = c.neighbour-before.ensures in
    let after = c.neighbour-after.ensures in
    let folded = c.log.ensures.folded in
    let entries = c.log.ensures.entries in
    let same : place_among c.neighbour-before.result c.neighbour-after.result c.log.result.now.folded c.log.result.now.entries
    ≡ place_among (neighbour (kept p) set.caller set.before) (neighbour (kept p) set.caller set.after) p.repairer.folded p.repairer.entries =
    (λ i. place_among (before i) (after i) (folded i) (entries i)) in
    ap (λ (at : ℕ). length p.repairer.folded + at) (c.place.ensures.place ∙ same)
    ∙ place_behind_all (neighbour (kept p) set.caller set.before) (neighbour (kept p) set.caller set.after) p.repairer.folded p.repairer.entries
