use Rattle.std.proofs.Common.{◌≡◌, ◌+◌, ◌≤◌, length, map, take}
use Rattle.request_log.specs.Keys.{entry_key}
use Rattle.request_log.proofs.finding.origins_of.Given as goal

abbrev pub invariant-loop-kept : goal.invariant-loop-kept
invariant-loop-kept l = record {
  keys : l.origins.keys ≡ map entry_key (take l.kept-index l.entries);
  room : length l.entries ≤ l.origins.spare + l.kept-index;
}
