use Rattle.std.specs.List.{AllWithin}
use Rattle.world_audit.specs.Verdicts.{IsFetched}
use Rattle.world_audit.proofs.outstanding.first_fetch.Given as goal

abbrev pub invariant-loop-register : goal.invariant-loop-register
invariant-loop-register l = AllWithin IsFetched l.registers 0 l.register-index
