-- Rows with one more behind the last.
use Rattle.std.proofs.Common.{◌≡◌, suc, ◌-◌, true, false, List, [], ◌∷◌, ◌++◌, slice_get, length, refl, arith}
use Rattle.std.specs.declared.cmp.Ordering.{Ordering}
use Rattle.std.specs.declared.cmp.Ordering.TheVariants.{Less, Equal, Greater}
use Rattle.lang_core.specs.Places.{IsBelowAll, IsOrdered, Place, by_order, place_order}
use Rattle.lang_core.specs.Rows.{cell_place}
use Rattle.lang_core.specs.declared.cells.Cell.{Cell}
use Rattle.lang_core.proofs.PlaceLemmas.{total}
use Rattle.dump_reader.specs.Reading.{is_behind, last_of}

-- the last by its place
pub last_is : (rows : List Cell) → slice_get rows (length rows - 1) ≡ last_of rows
last_is [] = refl
last_is (r ∷ []) = refl
last_is (r ∷ s ∷ rows) =
    let e : length (r ∷ s ∷ rows) - 1 ≡ suc (length (s ∷ rows) - 1) = omega arith in
    rw e (last_is (s ∷ rows))

is_less : (o : Ordering) → by_order o true false false ≡ true → o ≡ Less
is_less Less h = refl
is_less Equal h = absurd cc
is_less Greater h = absurd cc

first_below : (r : Cell) (rows : List Cell) (c : Cell) → IsOrdered cell_place (r ∷ rows) → is_behind (r ∷ rows) c ≡ true → place_order (cell_place r) (cell_place c) ≡ Less
first_below r [] c o h = is_less (place_order (cell_place r) (cell_place c)) h
first_below r (s ∷ rows) c o h = total.trans (cell_place r) (cell_place s) (cell_place c) o.0.0 (first_below s rows c o.1 h)

below_more : (p : Place) (rows : List Cell) (c : Cell) → IsBelowAll cell_place p rows → place_order p (cell_place c) ≡ Less → IsBelowAll cell_place p (rows ++ c ∷ [])
below_more p [] c below h = (h, tt)
below_more p (r ∷ rows) c below h = (below.0, below_more p rows c below.1 h)

pub ordered_more : (rows : List Cell) (c : Cell) → IsOrdered cell_place rows → is_behind rows c ≡ true → IsOrdered cell_place (rows ++ c ∷ [])
ordered_more [] c o h = (tt, tt)
ordered_more (r ∷ []) c o h = (below_more (cell_place r) [] c o.0 (first_below r [] c o h), (tt, tt))
ordered_more (r ∷ s ∷ rows) c o h = (below_more (cell_place r) (s ∷ rows) c o.0 (first_below r (s ∷ rows) c o h), ordered_more (s ∷ rows) c o.1 h)
