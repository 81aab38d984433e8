use Rattle.std.proofs.Common.{ℕ, List, ◌≡◌, ◌≤◌, cond, take}
use Rattle.std.specs.List.{list_any}
use Rattle.key_labels.specs.Labels.{behind}
use Rattle.dependency_index.specs.Reads.{is_at}
use Rattle.dependency_index.specs.Rows.{AreOrdered, labels_by, spare_by}
use Rattle.dependency_index.specs.declared.reads.ReadKind.{ReadKind}
use Rattle.dependency_index.proofs.prune.prune_reads.Given as goal

abbrev pub invariant-loop-read : goal.invariant-loop-read
invariant-loop-read l = record {
  ordered : AreOrdered l.rows;
  each : (kind : ReadKind) (t k : List ℕ) → labels_by l.rows kind t k
      ≡ cond (list_any (is_at kind t k) (take l.read-index l.reads)) (behind l.order.labels l.end (labels_by l.initial.rows kind t k)) (labels_by l.initial.rows kind t k);
  spare : (kind : ReadKind) (t k : List ℕ) → spare_by l.initial.rows kind t k ≤ spare_by l.rows kind t k;
}
