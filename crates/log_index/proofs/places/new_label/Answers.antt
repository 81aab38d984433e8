use Rattle.std.proofs.Common.{ℕ, List, get_or, sym, ap, ◌∙◌, subst}
use Rattle.std.specs.List.{Contains, insert}
use Rattle.place_order.specs.Labels.{place_in}
use Rattle.log_index.proofs.LabelLemmas.{place_at}
use Rattle.log_index.proofs.NotedLemmas.{contains_at}
use Rattle.log_index.proofs.places.new_label.Goals as goal

pub label_before-requires-clause-there : goal.label_before-requires-clause-there
label_before-requires-clause-there c =
    let P : List ℕ → Type 0 = λ l. Contains l (get_or c.args.labels.now c.args.place 0) in
    subst P c.requires.same.same (contains_at c.args.labels.now c.args.place c.if-place-labels.true)

pub returns-then-place-labels-clause-labels : goal.returns-then-place-labels-clause-labels
returns-then-place-labels-clause-labels c =
    let labels = c.args.labels.now in
    let made = c.label_before.result in
    c.label_before.ensures.labels
    ∙ ap (λ o. insert o (place_in o (get_or labels c.args.place 0)) made) (sym c.requires.same.same)
    ∙ ap (λ i. insert labels i made) (place_at labels c.args.place c.requires.same.apart c.if-place-labels.true)
