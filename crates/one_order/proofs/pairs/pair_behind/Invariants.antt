use Rattle.std.proofs.Common.{◌≡◌, drop, map}
use Rattle.dump_audit.specs.Histories.{histories_of}
use Rattle.one_order.specs.Pairs.{pair_behind}
use Rattle.one_order.specs.Roots.{rooted_at, sought_of}
use Rattle.one_order.proofs.pairs.pair_behind.Given as goal

abbrev pub invariant-loop-entry : goal.invariant-loop-entry
invariant-loop-entry l =
    pair_behind (sought_of l.sought) (rooted_at (histories_of l.world) l.last) (map (rooted_at (histories_of l.world)) (drop l.entry-index l.later))
    ≡ pair_behind (sought_of l.sought) (rooted_at (histories_of l.world) l.first) (map (rooted_at (histories_of l.world)) l.later)
