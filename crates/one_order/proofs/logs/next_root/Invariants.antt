use Rattle.std.proofs.Common.{◌≡◌, drop, map}
use Rattle.dump_audit.specs.Histories.{histories_of}
use Rattle.one_order.specs.Logs.{log_of}
use Rattle.one_world.specs.Searches.{next_root}
use Rattle.one_order.proofs.logs.next_root.Given as goal

abbrev pub invariant-loop-log : goal.invariant-loop-log
invariant-loop-log l =
    next_root (histories_of l.world) (map log_of l.logs) (map log_of (drop l.log-index l.logs)) ≡ next_root (histories_of l.fn.world) (map log_of l.fn.logs) (map log_of l.fn.logs)
