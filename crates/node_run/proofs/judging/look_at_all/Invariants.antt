use Rattle.std.proofs.Common.{All, take}
use Rattle.service_events.specs.Allowed.{IsAllowed}
use Rattle.service_events.specs.Fits.{Fits}
use Rattle.node_run.proofs.judging.look_at_all.Given as goal

abbrev pub invariant-loop-service : goal.invariant-loop-service
invariant-loop-service l = record {
  fits : All Fits (take l.service-index l.services);
  allowed : All IsAllowed (take l.service-index l.services);
}
