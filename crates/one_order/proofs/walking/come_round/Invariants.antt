use Rattle.std.proofs.Common.{map, reverse}
use Rattle.dump_audit.specs.Histories.{histories_of}
use Rattle.one_order.specs.Logs.{log_of}
use Rattle.one_order.specs.Pairs.{IsRootOf, IsWalk}
use Rattle.one_order.specs.Roots.{all_rooted}
use Rattle.one_order.specs.Shown.{name_at}
use Rattle.one_order.proofs.Seen.{unseen}
use Rattle.one_order.proofs.WalkLaws.{roots_of}
use Rattle.one_order.proofs.walking.come_round.Given as goal

abbrev pub invariant-loop-walk : goal.invariant-loop-walk
invariant-loop-walk l =
    IsWalk (histories_of l.world) (map name_at l.walk.roots.items) (name_at l.walk.last)
    × IsRootOf (name_at l.walk.last) (all_rooted (histories_of l.world) (map log_of l.logs))

abbrev pub decreases-loop-walk : goal.decreases-loop-walk
decreases-loop-walk l = unseen (reverse (map name_at l.walk.roots.items)) (roots_of (all_rooted (histories_of l.world) (map log_of l.logs)))
