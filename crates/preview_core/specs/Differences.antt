-- How rows differ from others.
use Rattle.std.specs.Prelude.{◌≡◌, ◌≢◌, List, [], ◌∷◌, Some, None, All, if◌then◌else◌}
use Rattle.lang_base.specs.Texts.{same_text}
use Rattle.lang_core.specs.Places.{IsOrdered, by_order, place_order}
use Rattle.lang_core.specs.Rows.{apply, cell_place, get, write_place}
use Rattle.lang_core.specs.declared.cells.Cell.{Cell}
use Rattle.lang_core.specs.declared.writes.Write.{Write}

-- these writes, by table and key, lead from the rows that were to those that are, and each changes what stands at its key
pub record LeadsTo (was is : List Cell) (writes : List Write) : Type 0 where
  pub ordered : IsOrdered write_place writes
  pub leads : apply was writes ≡ is
  pub changes : All (λ (w : Write). get was w.table w.key ≢ w.text) writes

-- ---- cell by cell, both in the order of their places

-- nothing is to stand at the place of a cell
abbrev pub dropped : Cell → Write
dropped c = record { table = c.table; key = c.key; text = None }

-- a cell is to stand there
abbrev pub put : Cell → Write
put c = record { table = c.table; key = c.key; text = Some c.text }

-- where two stand at one place, the second is to stand there if it has another text
abbrev pub put_other : Cell → Cell → List Write → List Write
put_other c d writes = if same_text c.text d.text then writes else put d ∷ writes

abbrev pub difference : List Cell → List Cell → List Write
difference [] [] = []
difference [] (d ∷ ds) = put d ∷ difference [] ds
difference (c ∷ cs) [] = dropped c ∷ difference cs []
difference (c ∷ cs) (d ∷ ds) =
    by_order (place_order (cell_place c) (cell_place d))
    (dropped c ∷ difference cs (d ∷ ds))
    (put_other c d (difference cs ds))
    (put d ∷ difference (c ∷ cs) ds)
