use Rattle.std.proofs.Common.{sym, ◌∙◌, arith}
use Rattle.lang_core.specs.Places.{place_of}
use Rattle.lang_core.proofs.SeekLemmas.{sought_front, sought_rest, found_rank, found_taken, sought_rank, sought_taken}
use Rattle.lang_core.proofs.place.seek_bytes.Goals as goal

pub loop-low-preserved-in-Less : goal.loop-low-preserved-in-Less
loop-low-preserved-in-Less g c =
    let p = place_of c.args.table.now c.args.key.now in
    let loop = c.loop-low.invariant in
    record {
      within = omega arith;
      ends = c.halfway-middle.ensures.low;
      sought = sought_rest g.T.Placed.place p c.args.items.now c.requires c.halfway-middle.result c.index-items-middle.result (omega arith) c.index-items-middle.is _ _ (sym c.in-Less.is ∙ c.order_of.ensures) loop.sought;
    }

pub loop-low-preserved : goal.loop-low-preserved
loop-low-preserved g c =
    let p = place_of c.args.table.now c.args.key.now in
    let loop = c.loop-low.invariant in
    record {
      within = loop.within;
      ends = omega arith;
      sought = sought_front g.T.Placed.place p c.args.items.now c.requires c.halfway-middle.result c.index-items-middle.result (omega arith) c.index-items-middle.is _ _ (sym c.in-Greater.is ∙ c.order_of.ensures) loop.sought;
    }

pub returns-in-Equal-clause-rank : goal.returns-in-Equal-clause-rank
returns-in-Equal-clause-rank g c =
    let p = place_of c.args.table.now c.args.key.now in
    found_rank g.T.Placed.place p c.args.items.now c.requires c.halfway-middle.result c.index-items-middle.result (omega arith) c.index-items-middle.is (sym c.in-Equal.is ∙ c.order_of.ensures)

pub returns-in-Equal-clause-taken : goal.returns-in-Equal-clause-taken
returns-in-Equal-clause-taken g c =
    let p = place_of c.args.table.now c.args.key.now in
    sym (found_taken g.T.Placed.place p c.args.items.now c.requires c.halfway-middle.result c.index-items-middle.result (omega arith) c.index-items-middle.is (sym c.in-Equal.is ∙ c.order_of.ensures))

pub returns-clause-rank : goal.returns-clause-rank
returns-clause-rank g c =
    let p = place_of c.args.table.now c.args.key.now in
    let loop = c.loop-low.invariant in
    sought_rank g.T.Placed.place p c.args.items.now c.loop-low.low c.loop-low.high (omega arith) c.loop-low-test.false loop.sought

pub returns-clause-taken : goal.returns-clause-taken
returns-clause-taken g c =
    let p = place_of c.args.table.now c.args.key.now in
    let loop = c.loop-low.invariant in
    sym (sought_taken g.T.Placed.place p c.args.items.now c.loop-low.low c.loop-low.high (omega arith) c.loop-low-test.false loop.sought)
