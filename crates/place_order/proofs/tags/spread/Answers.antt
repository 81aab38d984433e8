use Rattle.std.proofs.Common.{arith, rules}
use Rattle.place_order.proofs.TagLemmas.{evened_more}
use Rattle.place_order.proofs.tags.spread.Goals as goal

pub loop-place-preserved : goal.loop-place-preserved
loop-place-preserved c = record {
  len = search rules;
  items = search rules;
  capacity = search rules;
  each = rw (c.even_tag.ensures)
      (evened_more c.args.labels.now c.args.tags.now.items c.requires.tagged c.args.gap c.loop-place.place c.loop-place.tags.items c.loop-place.invariant.items (omega arith) c.loop-place.invariant.each);
}

pub returns-clause-each : goal.returns-clause-each
returns-clause-each c = λ k lt. c.loop-place.invariant.each k (omega arith)
