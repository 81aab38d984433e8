use Rattle.std.proofs.Common.{◌≡◌, take}
use Rattle.versioned_rows.specs.Versions.{rows_before_label}
use Rattle.versioned_rows.specs.Scans.{row_cells}
use Rattle.versioned_rows.proofs.versions.Versions.all_cells.Given as goal

abbrev pub invariant-loop-place : goal.invariant-loop-place
invariant-loop-place l = l.cells ≡ row_cells (rows_before_label l.order.labels l.label l.self) (take l.place l.rows.items)
