use Rattle.std.proofs.Common.{All, take}
use Rattle.node_run.specs.Ends.{IsSealedBy}
use Rattle.node_run.proofs.ending.are_sealed_so.Given as goal

abbrev pub invariant-loop-receipt : goal.invariant-loop-receipt
invariant-loop-receipt l = All (IsSealedBy l.here) (take l.receipt-index l.receipts)
