use Rattle.std.proofs.Common.{ℕ, List, ◌≡◌, ◌≤◌, cond, take, drop}
use Rattle.lang_core.specs.Places.{IsOrdered}
use Rattle.lang_core.specs.Rows.{get}
use Rattle.key_labels.specs.Labels.{behind}
use Rattle.key_labels.specs.Rows.{base_in, labels_in, row_place, spare_in, KeepsKeys}
use Rattle.versioned_rows.specs.Places.{is_written_by, rows_after, texts_of}
use Rattle.versioned_rows.specs.Versions.{base_cells}
use Rattle.versioned_rows.proofs.fold.settle_all.Given as goal

abbrev pub invariant-loop-at : goal.invariant-loop-at
invariant-loop-at l = record {
  ordered : IsOrdered row_place l.rows.items;
  each : (t k : List ℕ) → labels_in l.rows.items t k
      ≡ cond (is_written_by t k (take l.at (take l.n l.places))) (behind l.order.labels l.end (labels_in l.initial.rows.items t k)) (labels_in l.initial.rows.items t k);
  bases : (t k : List ℕ) → base_in l.rows.items t k ≡ get (rows_after (base_cells l.initial.rows.items) (take l.at (take l.n l.places))) t k;
  spare : (t k : List ℕ) → spare_in l.initial.rows.items t k ≤ spare_in l.rows.items t k;
  keys : KeepsKeys l.initial.rows.items l.rows.items;
  texts : l.texts.items ≡ texts_of (drop l.at (take l.n l.places));
}
