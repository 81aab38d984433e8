use Rattle.std.specs.List.{AllWithin}
use Rattle.world_agreement.specs.Partners.{HasPartner}
use Rattle.world_audit.proofs.verdicts.first_alone.Given as goal

abbrev pub invariant-loop-index : goal.invariant-loop-index
invariant-loop-index l = AllWithin (HasPartner l.services l.service) l.rows 0 l.index
