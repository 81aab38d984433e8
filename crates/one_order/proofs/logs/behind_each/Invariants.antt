use Rattle.std.proofs.Common.{◌≡◌, [], drop, map}
use Rattle.dump_audit.specs.Histories.{histories_of}
use Rattle.one_order.specs.Logs.{log_of}
use Rattle.one_world.specs.Searches.{behind_each}
use Rattle.one_order.proofs.LogLaws.{behind_front}
use Rattle.one_order.proofs.logs.behind_each.Given as goal

abbrev pub invariant-loop-log : goal.invariant-loop-log
invariant-loop-log l =
    behind_front (map log_of l.behind.items) (behind_each (histories_of l.world) l.id (map log_of (drop l.log-index l.logs)))
    ≡ behind_front [] (behind_each (histories_of l.fn.world) l.fn.id (map log_of l.fn.logs))
