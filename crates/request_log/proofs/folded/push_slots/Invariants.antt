use Rattle.std.proofs.Common.{◌≡◌, ◌+◌, ◌≤◌, ◌++◌, take}
use Rattle.request_log.proofs.folded.push_slots.Given as goal

abbrev pub invariant-loop-slot : goal.invariant-loop-slot
invariant-loop-slot l = record {
  keys : l.calls.keys ≡ l.initial.calls.keys ++ take l.slot-index l.slots;
  spare : l.initial.calls.spare ≤ l.calls.spare + l.slot-index;
}
