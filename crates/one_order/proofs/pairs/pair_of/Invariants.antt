use Rattle.std.proofs.Common.{◌≡◌, drop, map}
use Rattle.dump_audit.specs.Histories.{histories_of}
use Rattle.one_order.specs.Logs.{log_of}
use Rattle.one_order.specs.Pairs.{pair_of}
use Rattle.one_order.specs.Roots.{all_rooted, sought_of}
use Rattle.one_order.proofs.pairs.pair_of.Given as goal

abbrev pub invariant-loop-log : goal.invariant-loop-log
invariant-loop-log l =
    pair_of (sought_of l.sought) (all_rooted (histories_of l.world) (map log_of (drop l.log-index l.logs)))
    ≡ pair_of (sought_of l.sought) (all_rooted (histories_of l.world) (map log_of l.logs))
