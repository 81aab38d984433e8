use Rattle.std.proofs.Common.{◌≡◌, ◌<◌, ℕ, Some, slice_get}
use Rattle.node_core.specs.Closings.{AgreesSince}
use Rattle.node_core.specs.declared.receipt.Receipt.{Receipt}
use Rattle.node_core.proofs.closing.first_differing.Given as goal

abbrev pub invariant-loop-at : goal.invariant-loop-at
invariant-loop-at l = (k : ℕ) (r : Receipt) → k < l.at → slice_get l.receipts k ≡ Some r → AgreesSince l.since l.services r
