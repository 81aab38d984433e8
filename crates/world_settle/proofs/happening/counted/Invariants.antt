use Rattle.std.proofs.Common.{◌<◌, ◌^◌, All, length, take}
use Rattle.service_events.specs.State.{Kept}
use Rattle.world_settle.proofs.happening.counted.Given as goal

abbrev pub invariant-loop-service : goal.invariant-loop-service
invariant-loop-service l = All (λ (s : Kept). length s.journal < 2 ^ 64) (take l.service-index l.services)
