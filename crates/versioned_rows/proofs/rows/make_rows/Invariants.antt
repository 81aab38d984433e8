use Rattle.std.proofs.Common.{ℕ, List, ◌≡◌, ◌≤◌, true, take}
use Rattle.lang_core.specs.Places.{IsOrdered}
use Rattle.versioned_rows.specs.Places.{is_among}
use Rattle.key_labels.specs.Rows.{labels_in, row_place, spare_in, KeepsRows}
use Rattle.versioned_rows.proofs.rows.make_rows.Given as goal

abbrev pub invariant-loop-item : goal.invariant-loop-item
invariant-loop-item g l = record {
  ordered : IsOrdered row_place l.rows.items;
  each : (t k : List ℕ) → labels_in l.rows.items t k ≡ labels_in l.initial.rows.items t k;
  kept : (t k : List ℕ) → spare_in l.initial.rows.items t k ≤ spare_in l.rows.items t k;
  rows : KeepsRows l.initial.rows.items l.rows.items;
  spare : (t k : List ℕ) → is_among g.T.Placed.place t k (take l.item-index l.items) ≡ true → l.spare ≤ spare_in l.rows.items t k;
}
