use Rattle.std.proofs.Common.{◌≡◌, ◌++◌, drop, map}
use Rattle.dump_audit.specs.Histories.{histories_of}
use Rattle.one_order.specs.Logs.{log_of}
use Rattle.one_world.specs.Searches.{logs_of}
use Rattle.one_order.proofs.logs.logs_of.Given as goal

abbrev pub invariant-loop-service : goal.invariant-loop-service
invariant-loop-service l = map log_of l.logs.items ++ logs_of (histories_of (drop l.service-index l.world)) ≡ logs_of (histories_of l.fn.world)
