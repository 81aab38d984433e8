use Rattle.std.proofs.Common.{◌≡◌, drop, map}
use Rattle.dump_audit.specs.Histories.{histories_of}
use Rattle.one_order.specs.Logs.{log_of}
use Rattle.one_order.specs.Roots.{first_left}
use Rattle.one_order.proofs.pairs.first_left.Given as goal

abbrev pub invariant-loop-log : goal.invariant-loop-log
invariant-loop-log l = first_left (histories_of l.world) (map log_of (drop l.log-index l.logs)) ≡ first_left (histories_of l.world) (map log_of l.logs)
