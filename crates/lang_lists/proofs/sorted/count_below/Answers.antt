use Rattle.std.proofs.Common.{nat_lt, rules, arith, ltb-true, ltb-false}
use Rattle.lang_lists.proofs.NumberLemmas.{parted}
use Rattle.lang_lists.proofs.sorted.count_below.Goals as goal

pub returns-clause-front : goal.returns-clause-front
returns-clause-front g c = λ i d from lt.
    let number = g.T.Numbered.number in
    ltb-true _ _ ((c.count_front.ensures.parted (λ x. nat_lt (number x) c.args.number) (λ x r there e. search rules)
    (parted number c.args.number c.args.items.now c.requires)).0 i d from lt)

pub returns-clause-rest : goal.returns-clause-rest
returns-clause-rest g c = λ i d from inside.
    let number = g.T.Numbered.number in
    ltb-false _ _ ((c.count_front.ensures.parted (λ x. nat_lt (number x) c.args.number) (λ x r there e. search rules)
    (parted number c.args.number c.args.items.now c.requires)).1 i d from inside)
