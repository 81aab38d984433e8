use Rattle.std.proofs.Common.{sym, ap, ◌∙◌, arith}
use Rattle.std.proofs.lemmas.List.{get_or_read}
use Rattle.key_labels.proofs.RisingLemmas.{not_found_in_rising, somewhere, there}
use Rattle.key_labels.proofs.labels.position_in.Goals as goal

pub returns-then-stands_there : goal.returns-then-stands_there
returns-then-stands_there g c =
    there g.T.Labelled.label c.args.order.now.labels c.args.items.now c.requires.rising c.args.label c.args.label (c.stands_there.ensures.there c.if-stands_there.true)
    (c.stands_there.ensures.is c.if-stands_there.true)

pub returns-then-at-items : goal.returns-then-at-items
returns-then-at-items g c =
    not_found_in_rising g.T.Labelled.label c.args.order.now.labels c.args.items.now c.requires.rising c.count_before-at.result c.args.label
    c.count_before-at.ensures.front c.count_before-at.ensures.rest (λ lt d e. omega arith)

pub returns-then-label : goal.returns-then-label
returns-then-label g c =
    let label_of = g.T.Labelled.label in
    let xs = c.args.items.now in
    let at = c.count_before-at.result in
    let item = c.index-items-at.result in
    somewhere label_of c.args.order.now.labels xs c.requires.rising at c.args.label (let w = c.count_before-at.ensures.within in grind (arith, c.if-at-items.false))
    c.count_before-at.ensures.front item (ap label_of (sym c.index-items-at.is) ∙ sym c.label.ensures ∙ c.if-label.true)

pub returns-else-label : goal.returns-else-label
returns-else-label g c =
    let label_of = g.T.Labelled.label in
    not_found_in_rising label_of c.args.order.now.labels c.args.items.now c.requires.rising c.count_before-at.result c.args.label
    c.count_before-at.ensures.front c.count_before-at.ensures.rest
    (λ lt d e. c.if-label.false (c.label.ensures ∙ ap label_of (get_or_read c.args.items.now c.count_before-at.result c.index-items-at.result lt c.index-items-at.is d) ∙ e))
