use Rattle.std.proofs.Common.{◌≡◌, ◌≤◌, length, map, reverse, take}
use Rattle.one_order.specs.Pairs.{up_to}
use Rattle.one_order.specs.Shown.{name_at}
use Rattle.one_order.proofs.WalkLaws.{and_up_to}
use Rattle.one_order.proofs.walking.back_to.Given as goal

abbrev pub invariant-loop-count : goal.invariant-loop-count
invariant-loop-count l =
    (l.count ≤ length l.roots)
    × (and_up_to l.ids (up_to (name_at l.root) (reverse (map name_at (take l.count l.roots)))) ≡ up_to (name_at l.root) (reverse (map name_at l.roots)))

abbrev pub decreases-loop-count : goal.decreases-loop-count
decreases-loop-count l = l.count
