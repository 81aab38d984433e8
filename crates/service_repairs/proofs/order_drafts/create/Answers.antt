use Rattle.std.proofs.Common.{◌≡◌, ◌+◌, ◌∙◌, insert, length}
use Rattle.std.proofs.lemmas.Result.{on_ok_weaker}
use Rattle.create_placement.specs.Placement.{place_among}
use Rattle.service_parts.specs.Parts.{kept, whole_log}
use Rattle.service_repairs.proofs.OrderLemmas.{created_at}
use Rattle.service_repairs.proofs.order_drafts.create.Goals as goal

pub returns-clause-ok : goal.returns-clause-ok
returns-clause-ok c =
    let p = c.args.parts.now in
    let at = c.place-at.result in
    let e = c.in_ok-entry.entry in
    let past = c.log.ensures.folded in
    let others = c.log.ensures.entries in
    let same : place_among c.args.before c.args.after c.log.result.now.folded c.log.result.now.entries
    ≡ place_among c.args.before c.args.after p.repairer.folded p.repairer.entries =
    (λ i. place_among c.args.before c.args.after (past i) (others i)) in
    let folded = c.insert.ensures.folded in
    let base = c.insert.ensures.base in
    on_ok_weaker c.insert.result
    (λ (is : whole_log c.insert.new.repairer ≡ insert (whole_log p.repairer) (length p.repairer.folded + at) e).
    let entries = created_at p c.insert.new.repairer at e c.args.before c.args.after c.args.request c.args.inputs (c.place-at.ensures.place ∙ same) c.in_ok-entry.ensures is in
    (λ i. record (kept p) { entries = entries i; horizon = length (folded i); base = base i }))
    c.insert.ensures.ok
