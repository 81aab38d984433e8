use Rattle.std.proofs.Common.{arith}
use Rattle.std.proofs.lemmas.Option.{slice_get_within}
use Rattle.node_core.proofs.SearchLemmas.{all_more, affirmed}
use Rattle.node_core.specs.Closings.{AgreesSince}
use Rattle.node_core.proofs.closing.first_differing.Goals as goal

pub loop-at-preserved : goal.loop-at-preserved
loop-at-preserved c =
    all_more (AgreesSince c.args.since.now c.args.services.now) c.args.receipts.now c.loop-at.at c.index-receipts-at.result c.index-receipts-at.is c.loop-at-test.true
    c.loop-at.invariant (affirmed c.agrees_since.result c.agrees_since.ensures c.if-not-agrees_since.false)

pub returns-clause-none : goal.returns-clause-none
returns-clause-none c at r there =
    c.loop-at.invariant at r (omega (arith, slice_get_within c.args.receipts.now at r there, c.loop-at-test.false)) there
