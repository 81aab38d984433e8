use Rattle.std.proofs.Common.{◌≡◌, take}
use Rattle.service_core.specs.Programs.{by_numbers}
use Rattle.service_core.proofs.ProgramLemmas.{of_entries}
use Rattle.service_core.proofs.programs.put_entries.Given as goal

abbrev pub invariant-loop-kept : goal.invariant-loop-kept
invariant-loop-kept l = l.programs.list ≡ by_numbers l.initial.programs.list (of_entries (take l.kept-index l.entries))
