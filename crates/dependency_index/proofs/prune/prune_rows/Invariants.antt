use Rattle.std.proofs.Common.{ℕ, List, ◌≡◌, ◌≤◌, cond, take}
use Rattle.std.specs.List.{list_any}
use Rattle.key_labels.specs.Labels.{behind}
use Rattle.dependency_index.specs.Reads.{reads_before}
use Rattle.dependency_index.specs.Rows.{AreOrdered, labels_by, spare_by}
use Rattle.dependency_index.specs.declared.reads.ReadKind.{ReadKind}
use Rattle.dependency_index.proofs.prune.prune_rows.Given as goal

abbrev pub invariant-loop-own : goal.invariant-loop-own
invariant-loop-own l = record {
  ordered : AreOrdered l.rows;
  each : (kind : ReadKind) (t k : List ℕ) → labels_by l.rows kind t k
      ≡ cond (list_any (reads_before l.order.labels l.end kind t k) (take l.own-index l.noted)) (behind l.order.labels l.end (labels_by l.initial.rows kind t k)) (labels_by l.initial.rows kind t k);
  spare : (kind : ReadKind) (t k : List ℕ) → spare_by l.initial.rows kind t k ≤ spare_by l.rows kind t k;
}
