use Rattle.std.proofs.Common.{subst}
use Rattle.service_events.specs.Ages.{HasAges}
use Rattle.service_events.specs.State.{Kept}
use Rattle.service_core.proofs.service.Service.journal.Goals as goal

pub returns-clause-ages : goal.returns-clause-ages
returns-clause-ages c = subst (λ (s : Kept). HasAges s.journal s.registers s.replies) c.self.view_is c.self.invariant.0.ages
