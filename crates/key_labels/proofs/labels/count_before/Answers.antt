use Rattle.std.proofs.Common.{sym, rules, arith}
use Rattle.std.specs.List.{Contains}
use Rattle.place_order.specs.Rising.{is_before}
use Rattle.key_labels.proofs.RisingLemmas.{filter_front, known, earlier}
use Rattle.key_labels.proofs.labels.count_before.Goals as goal

pub count_front-requires : goal.count_front-requires
count_front-requires g c = λ x there.
    let here : Contains c.args.order.now.labels (g.T.Labelled.label x.now) =
    known g.T.Labelled.label c.args.order.now.labels c.args.items.now c.requires.rising there.0 x.now there.1 (sym there.2) in
    search rules

pub returns-clause-front : goal.returns-clause-front
returns-clause-front g c = λ i d lt.
    (c.count_front.ensures.parted (λ x. is_before c.args.order.now.labels c.args.end (g.T.Labelled.label x)) (λ x r there e. search rules)
    (earlier g.T.Labelled.label c.args.order.now.labels c.args.items.now c.requires.rising c.args.end)).0 i d (omega arith) lt

pub returns-clause-rest : goal.returns-clause-rest
returns-clause-rest g c = λ i d from inside.
    (c.count_front.ensures.parted (λ x. is_before c.args.order.now.labels c.args.end (g.T.Labelled.label x)) (λ x r there e. search rules)
    (earlier g.T.Labelled.label c.args.order.now.labels c.args.items.now c.requires.rising c.args.end)).1 i d from inside

pub returns-clause-count : goal.returns-clause-count
returns-clause-count g c =
    filter_front (λ x. is_before c.args.order.now.labels c.args.end (g.T.Labelled.label x)) c.args.items.now c.count_front.result c.count_front.ensures.within
    (returns-clause-front g c) (returns-clause-rest g c)
