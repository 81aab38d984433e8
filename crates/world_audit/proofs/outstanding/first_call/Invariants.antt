use Rattle.std.specs.List.{AllWithin}
use Rattle.world_audit.specs.Verdicts.{IsAcknowledged}
use Rattle.world_audit.proofs.outstanding.first_call.Given as goal

abbrev pub invariant-loop-register : goal.invariant-loop-register
invariant-loop-register l = AllWithin IsAcknowledged l.registers 0 l.register-index
