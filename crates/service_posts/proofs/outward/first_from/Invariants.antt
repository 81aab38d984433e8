use Rattle.std.proofs.Common.{◌≡◌, ◌≤◌, ◌-◌, drop, length}
use Rattle.service_posts.specs.Walks.{calls_in, first_to}
use Rattle.service_posts.proofs.outward.first_from.Given as goal

abbrev pub invariant-loop-at : goal.invariant-loop-at
invariant-loop-at l = record {
  within : l.at ≤ length l.entries;
  passed : first_to l.registers.list l.dest (calls_in (drop l.from l.entries)) ≡ first_to l.registers.list l.dest (calls_in (drop l.at l.entries));
}

abbrev pub decreases-loop-at : goal.decreases-loop-at
decreases-loop-at l = length l.entries - l.at
