use Rattle.std.proofs.Common.{◌≡◌, ◌+◌, ℕ, Some, [], slice_get, vec_len}
use Rattle.node_core.specs.Notes.{no_notes}
use Rattle.node_core.proofs.nodes.passes_of.Given as goal

abbrev pub invariant-loop-i : goal.invariant-loop-i
invariant-loop-i g l = record {
  parts : l.rest.parts + l._i ≡ l.passes;
  none : l.rest.amount ≡ 0;
  count : vec_len l.all ≡ l._i;
  fresh : (i : ℕ) (p : _) → slice_get l.all.items i ≡ Some p → (p.receipts.items ≡ []) × (p.notes ≡ no_notes);
}
