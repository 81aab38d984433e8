use Rattle.std.proofs.Common.{arith}
use Rattle.std.proofs.lemmas.Option.{slice_get_within}
use Rattle.node_core.proofs.SearchLemmas.{all_more, affirmed}
use Rattle.node_core.specs.Closings.{StandsSince}
use Rattle.node_core.proofs.noted.all_stand.Goals as goal

pub loop-note-preserved : goal.loop-note-preserved
loop-note-preserved c =
    all_more (StandsSince c.args.since.now c.args.services.now) c.args.orders.now c.loop-note.note-index c.note-item.result c.note-item.is c.loop-note-test.true
    c.loop-note.invariant (affirmed c.stands_since.result c.stands_since.ensures c.if-not-stands_since.false)

pub returns : goal.returns
returns c passed at n there =
    c.loop-note.invariant at n (omega (arith, slice_get_within c.args.orders.now at n there, c.loop-note-test.false)) there
