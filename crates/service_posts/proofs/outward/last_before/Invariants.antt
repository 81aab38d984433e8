use Rattle.std.proofs.Common.{◌≡◌, ◌≤◌, length, take}
use Rattle.service_posts.specs.Walks.{calls_by, last_to}
use Rattle.service_posts.proofs.outward.last_before.Given as goal

abbrev pub invariant-loop-end : goal.invariant-loop-end
invariant-loop-end g l = record {
  within : l.end ≤ length l.entries;
  passed : last_to l.registers.list l.dest (calls_by g.T.Calling.slots (take l.to l.entries)) ≡ last_to l.registers.list l.dest (calls_by g.T.Calling.slots (take l.end l.entries));
}

abbrev pub decreases-loop-end : goal.decreases-loop-end
decreases-loop-end g l = l.end
