use Rattle.std.proofs.Common.{◌≡◌, ◌≤◌, length, vec_len}
use Rattle.node_core.specs.Closings.{all_told_since}
use Rattle.node_core.proofs.closing.gather_rows.Given as goal

abbrev pub invariant-loop-node : goal.invariant-loop-node
invariant-loop-node g l = record {
  parts : l.all.parts ≡ length l.yielded;
  amount : l.all.amount ≡ all_told_since l.services.items l.since;
  len : vec_len l.services ≡ length l.yielded;
  reach : vec_len l.services ≤ length l.since;
}
