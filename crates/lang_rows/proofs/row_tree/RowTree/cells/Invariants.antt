use Rattle.std.proofs.Common.{◌≡◌, ◌++◌}
use Rattle.lang_rows.specs.RowTrees.{cells_of}
use Rattle.lang_rows.proofs.row_tree.RowTree.cells.Given as goal

abbrev pub invariant-loop-spot : goal.invariant-loop-spot
invariant-loop-spot l = record {
  can_next : (goal.iterator-loop-spot).can_next l.spot-iterator;
  ends : (goal.iterator-loop-spot).is_finite l.spot-iterator;
  rest : l.cells ++ cells_of l.spot-iterator ≡ l.fn.self;
}
