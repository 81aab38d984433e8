-- Services that fit their journals, have different names, are joined and quiet are one legal execution of the requests that survive.
use Rattle.std.proofs.Common.{List, All}
use Rattle.service_events.specs.State.{Kept}
use Rattle.service_events.specs.Fits.{Fits}
use Rattle.world_agreement.specs.Partners.{NamesDiffer, IsJoined}
use Rattle.world_agreement.specs.Quiet.{AreQuiet}
use Rattle.world_agreement.specs.Legal.{AreLegal}
use Rattle.world_agreement.proofs.ReplayLaws.{legal_alone, all_recorded}
use Rattle.world_agreement.proofs.Settled.{AreAtRest}
use Rattle.world_agreement.proofs.ServedLaws.{all_served}
use Rattle.world_agreement.proofs.CalledLaws.{all_called_for}

pub legal_together : (services : List Kept) → All Fits services → NamesDiffer services → IsJoined services → AreQuiet services
    → AreLegal services
legal_together services fits differ joined quiet =
    let rest : AreAtRest services = record { together = record { fits = fits; differ = differ; joined = joined }; quiet = quiet } in
    record {
      together = record { alone = legal_alone services fits quiet; served = all_served services rest; called_for = all_called_for services rest };
      recorded = all_recorded services fits quiet;
    }
