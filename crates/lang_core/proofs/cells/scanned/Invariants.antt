use Rattle.std.proofs.Common.{◌≡◌, ◌≤◌, ◌++◌, drop, length}
use Rattle.std.specs.List.{filter}
use Rattle.lang_core.specs.Rows.{is_beneath, kept_from, scan}
use Rattle.lang_core.proofs.cells.scanned.Given as goal

abbrev pub invariant-loop-cell : goal.invariant-loop-cell
invariant-loop-cell l = record {
  few : l.bytes ≤ 262144;
  rest : l.kept.items ++ kept_from (length l.kept.items) l.bytes (filter (is_beneath l.table l.prefix) (drop l.cell-index l.cells))
      ≡ scan l.cells l.table l.prefix;
}
