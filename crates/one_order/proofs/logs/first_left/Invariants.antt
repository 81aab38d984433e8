use Rattle.std.proofs.Common.{◌≡◌, drop, map}
use Rattle.one_order.specs.Logs.{log_of}
use Rattle.one_world.specs.Searches.{all_passed}
use Rattle.one_order.proofs.logs.first_left.Given as goal

abbrev pub invariant-loop-log : goal.invariant-loop-log
invariant-loop-log l = all_passed (map log_of (drop l.log-index l.logs)) ≡ all_passed (map log_of l.fn.logs)
