-- Rows in a tree, as the list of their cells.
use Rattle.std.specs.Prelude.{ℕ, List, map}
use Rattle.lang_core.specs.declared.cells.Cell.{Cell}
use Rattle.lang_rows.specs.declared.spot.Spot.{Spot}

-- the row of a table, a key and a text
abbrev pub cell_of : Spot × List ℕ → Cell
cell_of e = record { table = e.0.table; key = e.0.key; text = e.1 }

abbrev pub cells_of : List (Spot × List ℕ) → List Cell
cells_of entries = map cell_of entries
