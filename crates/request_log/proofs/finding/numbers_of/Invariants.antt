use Rattle.std.proofs.Common.{◌≡◌, ◌+◌, ◌≤◌, length, map, take}
use Rattle.request_log.specs.Keys.{number_of}
use Rattle.request_log.proofs.finding.numbers_of.Given as goal

abbrev pub invariant-loop-kept : goal.invariant-loop-kept
invariant-loop-kept l = record {
  keys : l.numbers.keys ≡ map number_of (take l.kept-index l.entries);
  room : length l.entries ≤ l.numbers.spare + l.kept-index;
}
