use Rattle.std.proofs.Common.{◌≡◌, ◌+◌, ◌-◌, ◌≤◌, length, take}
use Rattle.request_log.specs.Keys.{slots_in}
use Rattle.request_log.proofs.folded.push_calls.Given as goal

abbrev pub invariant-loop-place : goal.invariant-loop-place
invariant-loop-place l = record {
  within : l.place ≤ length l.items;
  keys : l.calls.keys ≡ slots_in (take l.place l.items);
  room : length (slots_in l.items) ≤ l.calls.spare + length (slots_in (take l.place l.items));
}

abbrev pub decreases-loop-place : goal.decreases-loop-place
decreases-loop-place l = length l.items - l.place
