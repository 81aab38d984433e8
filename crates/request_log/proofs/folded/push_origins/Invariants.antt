use Rattle.std.proofs.Common.{◌≡◌, ◌+◌, ◌-◌, ◌≤◌, length, map, take}
use Rattle.request_log.specs.Keys.{folded_key}
use Rattle.request_log.proofs.folded.push_origins.Given as goal

abbrev pub invariant-loop-place : goal.invariant-loop-place
invariant-loop-place l = record {
  within : l.place ≤ length l.items;
  keys : l.origins.keys ≡ map folded_key (take l.place l.items);
  room : length l.items ≤ l.origins.spare + l.place;
}

abbrev pub decreases-loop-place : goal.decreases-loop-place
decreases-loop-place l = length l.items - l.place
