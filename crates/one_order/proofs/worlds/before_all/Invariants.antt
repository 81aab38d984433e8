use Rattle.std.proofs.Common.{◌≡◌, ◌++◌, drop}
use Rattle.dump_audit.specs.Histories.{histories_of}
use Rattle.one_world.specs.OneWorld.{before_all}
use Rattle.one_order.proofs.worlds.before_all.Given as goal

abbrev pub invariant-loop-service : goal.invariant-loop-service
invariant-loop-service l = l.world.items ++ before_all (histories_of (drop l.service-index l.services)) ≡ before_all (histories_of l.fn.services)
