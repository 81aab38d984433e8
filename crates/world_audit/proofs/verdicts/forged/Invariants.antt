use Rattle.std.specs.List.{AllWithin}
use Rattle.service_events.specs.Allowed.{IsAllowed}
use Rattle.service_events.specs.Fits.{Fits}
use Rattle.world_audit.specs.Verdicts.{IsJoinedIn}
use Rattle.world_audit.proofs.verdicts.forged.Given as goal

abbrev pub invariant-loop-at : goal.invariant-loop-at
invariant-loop-at l = record {
  joined : AllWithin (IsJoinedIn l.services) l.services 0 l.at;
  fits : AllWithin Fits l.services 0 l.at;
  allowed : AllWithin IsAllowed l.services 0 l.at;
}
