-- Rows of labels by kind of read, table and key.
use Rattle.std.specs.Prelude.{ℕ, ◌≡◌, zero, suc, ◌+◌, List, [], Option, filter, length, take}
use Rattle.std.specs.List.{All, Contains}
use Rattle.lang_core.specs.Places.{IsOrdered}
use Rattle.key_labels.specs.Labels.{behind, is_other}
use Rattle.key_labels.specs.Rows.{row_place, labels_in, spare_in}
use Rattle.key_labels.specs.declared.rows.KeyLabels.{KeyLabels}
use Rattle.dependency_index.specs.Numbers.{Rises, with_numbers}
use Rattle.dependency_index.specs.declared.reads.ReadKind.{ReadKind}
use Rattle.dependency_index.specs.declared.reads.ReadKind.TheVariants.{Key, Scan}
use Rattle.dependency_index.specs.declared.rows.ReadRows.{ReadRows}

abbrev pub rows_of : ReadKind → ReadRows → List KeyLabels
rows_of Key rows = rows.keys.items
rows_of Scan rows = rows.scans.items

abbrev pub AreOrdered : ReadRows → Type 0
AreOrdered rows = (kind : ReadKind) → IsOrdered row_place (rows_of kind rows)

-- the labels in the row of a key or a prefix
abbrev pub labels_by : ReadRows → ReadKind → List ℕ → List ℕ → List ℕ
labels_by rows kind t k = labels_in (rows_of kind rows) t k

-- for how many labels more it has places
abbrev pub spare_by : ReadRows → ReadKind → List ℕ → List ℕ → ℕ
spare_by rows kind t k = spare_in (rows_of kind rows) t k

-- and for how many in all
abbrev pub places_by : ReadRows → ReadKind → List ℕ → List ℕ → ℕ
places_by rows kind t k = length (labels_by rows kind t k) + spare_by rows kind t k

-- the labels in the rows of the prefixes of a key that are shorter than this
abbrev pub under : List KeyLabels → List ℕ → List ℕ → ℕ → List ℕ
under rows t k zero = []
under rows t k (suc n) = with_numbers (labels_in rows t (take n k)) (under rows t k n)

-- a row of labels of an order, which rise by their numbers: where a label isn't among them, none before another is
pub record IsPrunable (order : List ℕ) (end : Option ℕ) (label : ℕ) (row : List ℕ) : Type 0 where
  pub rising : Rises row
  pub known : All (Contains order) row
  pub pruned : filter (is_other label) row ≡ row → behind order end row ≡ row
