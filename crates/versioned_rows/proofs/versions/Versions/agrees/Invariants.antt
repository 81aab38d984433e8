use Rattle.std.proofs.Common.{◌≡◌, ◌≤◌, ◌++◌, drop, length, take}
use Rattle.lang_core.specs.Rows.{kept_from}
use Rattle.versioned_rows.specs.Versions.{rows_before_label}
use Rattle.versioned_rows.specs.Scans.{is_under, while, row_cells}
use Rattle.versioned_rows.proofs.versions.Versions.agrees.Given as goal

abbrev pub invariant-loop-place : goal.invariant-loop-place
invariant-loop-place l = record {
  few : l.bytes ≤ 262144;
  within : l.n ≤ length l.found;
  rest : take l.n l.found ++ kept_from (length (take l.n l.found)) l.bytes (row_cells (rows_before_label l.order.labels l.label l.self) (while (is_under l.table l.prefix) (drop l.place l.rows.items)))
      ≡ kept_from 0 0 (row_cells (rows_before_label l.order.labels l.label l.self) (while (is_under l.table l.prefix) (drop l.from l.rows.items)));
}
