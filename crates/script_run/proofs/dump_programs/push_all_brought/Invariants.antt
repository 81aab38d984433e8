use Rattle.std.proofs.Common.{◌≡◌, ◌++◌, flat_map, string_bytes, take}
use Rattle.script_run.specs.Dumping.{brought_line}
use Rattle.script_run.proofs.dump_programs.push_all_brought.Given as goal

abbrev pub invariant-loop-row : goal.invariant-loop-row
invariant-loop-row l = string_bytes l.text ≡ string_bytes l.initial.text ++ flat_map brought_line (take l.row-index l.rows)
