use Rattle.lang_lists.proofs.NumberLemmas.{rest_above}
use Rattle.lang_lists.proofs.sorted.search_number.Goals as goal

pub returns-then-stands_at : goal.returns-then-stands_at
returns-then-stands_at g c = record {
  within = c.stands_at.ensures.there c.if-stands_at.true;
  front = c.count_below-at.ensures.front;
  here = c.stands_at.ensures.here c.if-stands_at.true;
}

pub returns-else-stands_at : goal.returns-else-stands_at
returns-else-stands_at g c = record {
  within = c.count_below-at.ensures.within;
  front = c.count_below-at.ensures.front;
  rest = rest_above g.T.Numbered.number c.args.number c.count_below-at.result c.args.items.now c.requires c.count_below-at.ensures.rest
      (c.stands_at.ensures.other c.if-stands_at.false);
}
