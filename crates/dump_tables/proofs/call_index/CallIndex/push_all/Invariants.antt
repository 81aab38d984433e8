use Rattle.std.proofs.Common.{◌≡◌, ◌++◌, ◌+◌, ◌≤◌, length, map, take}
use Rattle.std.specs.Prelude.{vec_capacity}
use Rattle.dump_tables.proofs.call_index.CallIndex.push_all.Given as goal

abbrev pub invariant-loop-number : goal.invariant-loop-number
invariant-loop-number l = record {
  numbers : l.self.numbers.keys ≡ l.fn.self.numbers.keys ++ take l.number-index l.numbers;
  places : l.self.places.items ≡ l.fn.self.places.items ++ map (λ _. l.place) (take l.number-index l.numbers);
  spare : length l.numbers ≤ l.self.numbers.spare + l.number-index;
  room : length l.self.places.items + length l.numbers ≤ vec_capacity l.self.places + l.number-index;
}
