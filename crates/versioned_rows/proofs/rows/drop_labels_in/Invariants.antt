use Rattle.std.proofs.Common.{ℕ, List, ◌≡◌, ◌≤◌, cond, take, filter}
use Rattle.lang_core.specs.Places.{IsOrdered}
use Rattle.key_labels.specs.Labels.{is_other}
use Rattle.versioned_rows.specs.Places.{is_written}
use Rattle.key_labels.specs.Rows.{labels_in, row_place, spare_in, KeepsRows}
use Rattle.versioned_rows.proofs.rows.drop_labels_in.Given as goal

abbrev pub invariant-loop-write : goal.invariant-loop-write
invariant-loop-write l = record {
  ordered : IsOrdered row_place l.rows.items;
  each : (t k : List ℕ) → labels_in l.rows.items t k ≡ cond (is_written t k (take l.write-index l.writes)) (filter (is_other l.label) (labels_in l.initial.rows.items t k)) (labels_in l.initial.rows.items t k);
  spare : (t k : List ℕ) → spare_in l.initial.rows.items t k ≤ spare_in l.rows.items t k;
  rows : KeepsRows l.initial.rows.items l.rows.items;
}
