use Rattle.std.proofs.Common.{◌≡◌, ◌++◌, flat_map, string_bytes, take}
use Rattle.service_reports.specs.Lines.{row_line}
use Rattle.service_reports.proofs.lines.push_rows.Given as goal

abbrev pub invariant-loop-write : goal.invariant-loop-write
invariant-loop-write l = string_bytes l.text ≡ string_bytes l.initial.text ++ flat_map row_line (take l.write-index l.writes)
