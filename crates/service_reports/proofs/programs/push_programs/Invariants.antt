use Rattle.std.proofs.Common.{◌≡◌, ◌++◌, flat_map, string_bytes, take}
use Rattle.service_reports.specs.Programs.{program_line}
use Rattle.service_reports.proofs.programs.push_programs.Given as goal

abbrev pub invariant-loop-program : goal.invariant-loop-program
invariant-loop-program l = string_bytes l.text ≡ string_bytes l.initial.text ++ flat_map (program_line l.newest) (take l.program-index l.programs)
