use Rattle.std.proofs.Common.{◌≡◌, reverse}
use Rattle.dump_audit.specs.Histories.{histories_of}
use Rattle.one_order.specs.Roots.{climb, way_up}
use Rattle.one_order.specs.Shown.{place_of}
use Rattle.one_order.proofs.roots.root_of.Given as goal

abbrev pub invariant-loop-more : goal.invariant-loop-more
invariant-loop-more l = climb l.more (histories_of l.world) (place_of l.root) (reverse l.slots.items) ≡ way_up (histories_of l.world) (place_of l.at)

abbrev pub decreases-loop-more : goal.decreases-loop-more
decreases-loop-more l = l.more
