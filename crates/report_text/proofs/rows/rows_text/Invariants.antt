use Rattle.std.proofs.Common.{◌≡◌, flat_map, string_bytes, take}
use Rattle.report_text.specs.Reports.{cell_line}
use Rattle.report_text.proofs.rows.rows_text.Given as goal

abbrev pub invariant-loop-cell : goal.invariant-loop-cell
invariant-loop-cell l = string_bytes l.lines ≡ flat_map cell_line (take l.cell-index l.cell-items)
