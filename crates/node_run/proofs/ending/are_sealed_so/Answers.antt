use Rattle.std.proofs.Common.{All, subst, arith}
use Rattle.std.proofs.lemmas.List.{take_all}
use Rattle.std.proofs.lemmas.List.Elements.{All-more}
use Rattle.node_run.specs.Ends.{IsSealedBy}
use Rattle.node_run.proofs.ending.are_sealed_so.Goals as goal

pub loop-receipt-preserved : goal.loop-receipt-preserved
loop-receipt-preserved c =
    All-more (IsSealedBy c.args.here.now) c.args.receipts.now c.loop-receipt.receipt-index c.receipt-item.result c.loop-receipt-test.true c.loop-receipt.invariant
    (subst (IsSealedBy c.args.here.now) c.receipt-item.is (c.is_sealed_so.ensures c.if-not-is_sealed_so.false))

pub returns : goal.returns
returns c = λ _. subst (All (IsSealedBy c.args.here.now)) (take_all c.loop-receipt.receipt-index c.args.receipts.now (omega (arith, c.loop-receipt-test.false))) c.loop-receipt.invariant
