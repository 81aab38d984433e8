use Rattle.std.proofs.Common.{nat_lt}
use Rattle.std.proofs.lemmas.Bool.{lt-ltb, le-ltb}
use Rattle.key_labels.proofs.RisingLemmas.{filter_front}
use Rattle.dependency_index.proofs.NumberLemmas.{rest_above}
use Rattle.dependency_index.proofs.numbers.seek_number.Goals as goal

pub returns-clause-below : goal.returns-clause-below
returns-clause-below g c =
    let label = g.T.Labelled.label in
    filter_front (λ x. nat_lt (label x) c.args.label) c.args.items.now c.count_below-at.result c.count_below-at.ensures.within
    (λ i d lt. lt-ltb _ _ (c.count_below-at.ensures.front i d lt)) (λ i d from inside. le-ltb _ _ (c.count_below-at.ensures.rest i d from inside))

pub returns-clause-above : goal.returns-clause-above
returns-clause-above g c =
    rest_above g.T.Labelled.label c.args.items.now c.requires c.args.label c.count_below-at.result c.stands_at.result c.count_below-at.ensures.within
    c.count_below-at.ensures.front c.count_below-at.ensures.rest c.stands_at.ensures.there c.stands_at.ensures.here c.stands_at.ensures.other

pub returns-clause-within : goal.returns-clause-within
returns-clause-within g c = record { within = c.count_below-at.ensures.within; there = c.stands_at.ensures.there }
