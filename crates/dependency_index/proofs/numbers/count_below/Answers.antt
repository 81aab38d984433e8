use Rattle.std.proofs.Common.{nat_lt, rules, arith, ltb-true, ltb-false}
use Rattle.std.proofs.lemmas.List.Sorted.{IsPartitionedBy-ltb}
use Rattle.dependency_index.proofs.NumberLemmas.{not_below, lower, higher}
use Rattle.dependency_index.proofs.numbers.count_below.Goals as goal

pub returns-then-stands_there-clause-front : goal.returns-then-stands_there-clause-front
returns-then-stands_there-clause-front g c = λ i d lt.
    lower g.T.Labelled.label c.args.items.now c.requires c.args.label (c.stands_there.ensures.there c.if-stands_there.true) c.args.label (c.stands_there.ensures.is c.if-stands_there.true) i d lt

pub returns-then-stands_there-clause-rest : goal.returns-then-stands_there-clause-rest
returns-then-stands_there-clause-rest g c = λ i d from inside.
    higher g.T.Labelled.label c.args.items.now c.requires c.args.label (c.stands_there.ensures.there c.if-stands_there.true) c.args.label (c.stands_there.ensures.is c.if-stands_there.true) i d from inside

pub returns-clause-front : goal.returns-clause-front
returns-clause-front g c = λ i d lt.
    let label = g.T.Labelled.label in
    ltb-true _ _ ((c.count_front.ensures.parted (λ x. nat_lt (label x) c.args.label) (λ x r there e. search rules)
    (IsPartitionedBy-ltb label c.args.items.now c.args.label (not_below label c.args.items.now c.requires))).0 i d (omega arith) lt)

pub returns-clause-rest : goal.returns-clause-rest
returns-clause-rest g c = λ i d from inside.
    let label = g.T.Labelled.label in
    ltb-false _ _ ((c.count_front.ensures.parted (λ x. nat_lt (label x) c.args.label) (λ x r there e. search rules)
    (IsPartitionedBy-ltb label c.args.items.now c.args.label (not_below label c.args.items.now c.requires))).1 i d from inside)
