-- The cells of rows that stand under a prefix.
use Rattle.std.specs.Prelude.{ℕ, Bool, ◌&&◌, List, [], ◌∷◌, Option, Some, None, if◌then◌else◌}
use Rattle.std.specs.Option.{option_map}
use Rattle.lang_base.specs.Texts.{same_text, begins_with}
use Rattle.lang_core.specs.Places.{Place}
use Rattle.lang_core.specs.Rows.{get}
use Rattle.lang_core.specs.declared.cells.Cell.{Cell}
use Rattle.key_labels.specs.Rows.{row_place}
use Rattle.key_labels.specs.declared.rows.KeyLabels.{KeyLabels}

-- a place is in the table, under the prefix
abbrev pub beneath : List ℕ → List ℕ → Place → Bool
beneath t prefix q = same_text q.table t && begins_with prefix q.key

abbrev pub is_under : List ℕ → List ℕ → KeyLabels → Bool
is_under t prefix r = beneath t prefix (row_place r)

-- the front of a list, as long as it passes
abbrev pub while : {X : Type 0} → (X → Bool) → List X → List X
while p [] = []
while p (x ∷ xs) = if p x then x ∷ while p xs else []

-- the cell at the key of a row, if there is one
abbrev pub cell_at : List Cell → KeyLabels → Option Cell
cell_at cells r = option_map (λ x. record { table = r.table; key = r.key; text = x }) (get cells r.table r.key)

abbrev pub with_cell : Option Cell → List Cell → List Cell
with_cell None cells = cells
with_cell (Some c) cells = c ∷ cells

-- the cells at the keys of these rows
abbrev pub row_cells : List Cell → List KeyLabels → List Cell
row_cells cells [] = []
row_cells cells (r ∷ rs) = with_cell (cell_at cells r) (row_cells cells rs)
