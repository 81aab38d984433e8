use Rattle.std.proofs.Common.{◌≡◌, ◌≤◌, drop, length}
use Rattle.dependency_index.specs.Numbers.{with_numbers}
use Rattle.log_index.specs.Marks.{places_behind, AreMarks}
use Rattle.log_index.proofs.behind.put_behind.Given as goal

abbrev pub invariant-loop-label : goal.invariant-loop-label
invariant-loop-label l = record {
  rest : with_numbers (places_behind l.places.labels l.place (drop l.label-index l.found)) l.marks.items ≡ with_numbers (places_behind l.places.labels l.place l.found) l.initial.marks.items;
  marks : AreMarks (length l.places.labels) l.marks.items;
  room : l.initial.marks.spots ≤ l.marks.spots;
}
