use Rattle.std.proofs.Common.{◌≡◌, ◌++◌, flat_map, string_bytes, take}
use Rattle.dump_lines.specs.Dumps.{row_line}
use Rattle.script_run.proofs.dumping.push_rows.Given as goal

abbrev pub invariant-loop-cell : goal.invariant-loop-cell
invariant-loop-cell l = string_bytes l.text ≡ string_bytes l.initial.text ++ flat_map row_line (take l.cell-index l.cell-items)
