use Rattle.std.proofs.Common.{◌≡◌, ◌+◌, length, vec_len}
use Rattle.std.specs.List.{flat_map}
use Rattle.node_core.proofs.closing.gather_receipts.Given as goal

abbrev pub invariant-loop-pass : goal.invariant-loop-pass
invariant-loop-pass g l = record {
  parts : l.all.parts ≡ length l.yielded;
  amount : l.all.amount ≡ vec_len l.found + vec_len l.orders;
  receipts : l.found.items ≡ flat_map (λ p. p.receipts.items) l.yielded;
  orders : l.orders.items ≡ flat_map (λ p. p.notes.orders) l.yielded;
}
