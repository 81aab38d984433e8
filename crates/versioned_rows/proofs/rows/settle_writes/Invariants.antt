use Rattle.std.proofs.Common.{ℕ, List, ◌≡◌, ◌≤◌, cond, take, drop}
use Rattle.lang_core.specs.Places.{IsOrdered}
use Rattle.lang_core.specs.Rows.{written}
use Rattle.key_labels.specs.Labels.{behind}
use Rattle.versioned_rows.specs.Places.{is_written}
use Rattle.key_labels.specs.Rows.{base_in, labels_in, row_place, spare_in, KeepsKeys}
use Rattle.versioned_rows.proofs.rows.settle_writes.Given as goal

abbrev pub invariant-loop-write : goal.invariant-loop-write
invariant-loop-write l = record {
  ordered : IsOrdered row_place l.rows.items;
  each : (t k : List ℕ) → labels_in l.rows.items t k ≡ cond (is_written t k (take l.write-index l.writes)) (behind l.order.labels l.end (labels_in l.initial.rows.items t k)) (labels_in l.initial.rows.items t k);
  bases : (t k : List ℕ) → base_in l.rows.items t k ≡ written (take l.write-index l.writes) t k (base_in l.initial.rows.items t k);
  spare : (t k : List ℕ) → spare_in l.initial.rows.items t k ≤ spare_in l.rows.items t k;
  keys : KeepsKeys l.initial.rows.items l.rows.items;
  texts : l.texts.items ≡ drop l.write-index l.initial.texts.items;
}
