-- What contracts see of versions, and what their rows keep.
use Rattle.std.specs.Prelude.{ℕ, ◌≡◌, ◌≤◌, List, [], ◌∷◌, Option, option_map, map, count_by}
use Rattle.std.specs.List.{AllByRecursion}
use Rattle.lang_core.specs.Places.{IsOrdered}
use Rattle.lang_core.specs.Rows.{get, write_place}
use Rattle.lang_core.specs.declared.cells.Cell.{Cell}
use Rattle.lang_core.specs.declared.writes.Write.{Write}
use Rattle.key_labels.specs.Labels.{IsApart}
use Rattle.key_labels.specs.Rows.{row_place, labels_in, spare_in}
use Rattle.key_labels.specs.declared.rows.KeyLabels.{KeyLabels}
use Rattle.versioned_rows.specs.Places.{label_of, rows_after, before, is_written, writers}
use Rattle.versioned_rows.specs.Scans.{with_cell}
use Rattle.versioned_rows.specs.contracts.room.VersionsCall as call
use Rattle.versioned_rows.specs.declared.room.VersionsCall.{VersionsCall}
use Rattle.versioned_rows.specs.declared.room.VersionsCall.TheVariants.{WriteAt}
use Rattle.versioned_rows.specs.declared.places.PlaceWrites.{PlaceWrites}
use base.Stored.{Coded}

-- the rows before all places, what each place wrote, in the order of the places, and the calls for which room was made
pub record KeptVersions : Type 0 where
  pub base : List Cell
  pub versions : List PlaceWrites
  pub room : List VersionsCall

-- by which calls are told apart
abbrev pub call_code : Coded VersionsCall
call_code = call.the_row.coded

-- the call that gives a place these writes
abbrev pub write_call : List Write → VersionsCall
write_call writes = WriteAt writes

abbrev pub call_writes : VersionsCall → List Write
call_writes (WriteAt writes) = writes

-- how many of these calls write the key
abbrev pub asked : List ℕ → List ℕ → List VersionsCall → ℕ
asked t k room = count_by (λ call. is_written t k (call_writes call)) room

-- the rows of labels have what the calls need for which room was made
abbrev pub IsCovered : List VersionsCall → List KeyLabels → Type 0
IsCovered room rows = (t k : List ℕ) → asked t k room ≤ spare_in rows t k

-- the cells of the texts that stand before all labels
abbrev pub base_cells : List KeyLabels → List Cell
base_cells [] = []
base_cells (r ∷ rs) = with_cell (option_map (λ x. record { table = r.table; key = r.key; text = x }) r.base) (base_cells rs)

-- the rows name at each key the places that write it
pub record IsIndexed (places : List PlaceWrites) (rows : List KeyLabels) : Type 0 where
  pub apart : IsApart (map label_of places)
  pub writes : AllByRecursion (λ (p : PlaceWrites). IsOrdered write_place p.writes) places
  pub ordered : IsOrdered row_place rows
  pub each : (t k : List ℕ) → labels_in rows t k ≡ writers t k places

-- a row has the labels of the places that write its key, and the text that stands there before all places
pub record IsRowOf (kept : KeptVersions) (r : KeyLabels) : Type 0 where
  pub labels : r.labels.items ≡ writers r.table r.key kept.versions
  pub base : r.base ≡ get kept.base r.table r.key

-- the rows before a label, or after all places where that is the end
abbrev pub rows_before_label : List ℕ → Option ℕ → KeptVersions → List Cell
rows_before_label order end kept = rows_after kept.base (before order end kept.versions)
