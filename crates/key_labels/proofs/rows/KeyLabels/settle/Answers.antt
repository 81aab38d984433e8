use Rattle.std.proofs.Common.{drop, sym, ap, ◌∙◌}
use Rattle.std.proofs.lemmas.List.{map-id}
use Rattle.place_order.specs.Rising.{is_before}
use Rattle.key_labels.specs.Labels.{behind}
use Rattle.key_labels.proofs.RisingLemmas.{filter_rest}
use Rattle.key_labels.proofs.rows.KeyLabels.settle.Goals as goal

pub count_before-n-requires-clause-rising : goal.count_before-n-requires-clause-rising
count_before-n-requires-clause-rising c = rw (map-id, c.labels.ensures) c.requires.rising

pub returns-clause-labels : goal.returns-clause-labels
returns-clause-labels c =
    let order = c.args.order.now.labels in
    let labels = c.labels.result.now in
    let n = c.count_before-n.result in
    c.drop_front.ensures.items ∙ ap (drop n) (sym c.labels.ensures)
    ∙ sym (filter_rest (is_before order c.args.end) labels n c.count_before-n.ensures.within c.count_before-n.ensures.front c.count_before-n.ensures.rest)
    ∙ ap (behind order c.args.end) c.labels.ensures
