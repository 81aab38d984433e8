use Rattle.std.proofs.Common.{◌++◌, List, ap, sym, subst, ◌∙◌}
use Rattle.std.specs.Map.Iter.{deref_pair}
use Rattle.std.proofs.lemmas.Map.Iter.{rest_more}
use Rattle.lang_core.specs.Places.{IsOrdered}
use Rattle.lang_core.specs.Rows.{cell_place}
use Rattle.lang_rows.specs.RowTrees.{cell_of, cells_of}
use Rattle.lang_rows.proofs.RowTreeLemmas.{Entry, front_ordered, ordered_so}
use Rattle.lang_rows.proofs.row_tree.RowTree.cells.Goals as goal

pub push_cell-requires : goal.push_cell-requires
push_cell-requires c =
    let cells = c.loop-spot.cells in
    let more = rest_more deref_pair c.loop-spot.spot-iterator c.next.new.self c.next.result (c.in-Some.spot, c.in-Some.text) c.in-Some.is c.next.ensures.steps in
    let whole = ap (λ (es : List Entry). cells ++ cells_of es) (sym more) ∙ c.loop-spot.invariant.rest in
    let sorted = subst (IsOrdered cell_place) c.self.view_is (ordered_so c.self.inside.texts.entries c.into_iter-spot-iterator.ensures.into_iter_gives.5) in
    front_ordered cells (cell_of (c.in-Some.spot.now, c.in-Some.text.now)) (cells_of c.next.new.self) (subst (IsOrdered cell_place) (sym whole) sorted)
