use Rattle.std.proofs.Common.{◌≡◌, ◌++◌, filter}
use Rattle.lang_core.specs.Rows.{is_beneath}
use Rattle.lang_rows.specs.RowTrees.{cells_of}
use Rattle.lang_rows.proofs.row_tree.RowTree.beneath.Given as goal

abbrev pub invariant-loop-spot : goal.invariant-loop-spot
invariant-loop-spot l = record {
  can_next : (goal.iterator-loop-spot).can_next l.spot-iterator;
  ends : (goal.iterator-loop-spot).is_finite l.spot-iterator;
  rest : l.cells ++ filter (is_beneath l.table l.prefix) (cells_of l.spot-iterator) ≡ filter (is_beneath l.table l.prefix) l.fn.self;
}
