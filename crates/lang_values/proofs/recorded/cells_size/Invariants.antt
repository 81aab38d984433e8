use Rattle.std.proofs.Common.{◌≡◌, min, take}
use Rattle.std.specs.Prelude.{sum_by}
use Rattle.lang_core.specs.Rows.{cell_size}
use Rattle.lang_values.proofs.recorded.cells_size.Given as goal

abbrev pub invariant-loop-cell : goal.invariant-loop-cell
invariant-loop-cell l = l.bytes ≡ min (sum_by cell_size (take l.cell-index l.cells)) 18446744073709551615
