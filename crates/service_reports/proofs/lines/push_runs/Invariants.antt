use Rattle.std.proofs.Common.{◌≡◌, ◌++◌, flat_map, string_bytes, take}
use Rattle.service_reports.specs.Lines.{run_line}
use Rattle.service_reports.proofs.lines.push_runs.Given as goal

abbrev pub invariant-loop-one : goal.invariant-loop-one
invariant-loop-one l = string_bytes l.text ≡ string_bytes l.initial.text ++ flat_map (run_line l.me) (take l.one-index l.ran)
