use Rattle.std.proofs.Common.{◌≡◌, map, take}
use Rattle.service_core.specs.Programs.{use_of}
use Rattle.service_parts.specs.Parts.{kept}
use Rattle.service_core.proofs.programs.programs_in_use.Given as goal

abbrev pub invariant-loop-held : goal.invariant-loop-held
invariant-loop-held l = l.list ≡ map (use_of (kept l.parts)) (take l.held-index l.held-items)
