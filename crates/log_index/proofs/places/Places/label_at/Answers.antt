use Rattle.std.proofs.Common.{◌≡◌, ◌<◌, get_or, length, sym, ap, ◌∙◌, arith}
use Rattle.std.proofs.lemmas.List.{get_or_default}
use Rattle.place_order.specs.Labels.{place_in}
use Rattle.log_index.proofs.LabelLemmas.{place_at}
use Rattle.log_index.specs.Places.{KeptPlaces}
use Rattle.log_index.proofs.places.Places.label_at.Goals as goal

pub returns-clause-place : goal.returns-clause-place
returns-clause-place c =
    let labels = c.self.inside.labels.items in
    let seen : labels ≡ c.args.self.now.labels = ap (λ (k : KeptPlaces). k.labels) c.self.view_is in
    let many = ap length seen in
    let within = c.requires in
    let lt : c.args.place < length labels = omega arith in
    let is : c.index.result.now ≡ get_or labels c.args.place 0 = c.index.ensures ∙ get_or_default labels c.args.place c.index.result.now 0 lt in
    ap (λ l. place_in l c.index.result.now) (sym seen) ∙ ap (place_in labels) is ∙ place_at labels c.args.place c.self.invariant.apart lt
