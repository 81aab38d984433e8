use Rattle.std.specs.List.{AllWithin}
use Rattle.world_audit.specs.Verdicts.{NoneOf}
use Rattle.world_audit.proofs.verdicts.first_of.Given as goal

abbrev pub invariant-loop-at : goal.invariant-loop-at
invariant-loop-at l = AllWithin (NoneOf l.kind) l.services 0 l.at
