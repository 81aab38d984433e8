use Rattle.std.proofs.Common.{◌≡◌, ◌≤◌, take}
use Rattle.aire_top.specs.Serves.{receipts_of}
use Rattle.aire_top.proofs.telling.count_of.Given as goal

abbrev pub invariant-loop-receipt : goal.invariant-loop-receipt
invariant-loop-receipt l = record {
  counted : l.count ≡ receipts_of (take l.receipt-index l.receipts) l.name;
  most : l.count ≤ l.receipt-index;
}
