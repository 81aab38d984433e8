use Rattle.std.proofs.Common.{◌≡◌, map, take}
use Rattle.aire_top.specs.Top.{fresh_service}
use Rattle.aire_top.proofs.starting.services_of.Given as goal

abbrev pub invariant-loop-setup : goal.invariant-loop-setup
invariant-loop-setup l = l.services.items ≡ map fresh_service (take l.setup-index l.setups)
