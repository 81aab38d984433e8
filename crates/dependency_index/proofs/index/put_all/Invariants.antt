use Rattle.std.proofs.Common.{◌≡◌, drop}
use Rattle.dependency_index.specs.Numbers.{Rises, with_numbers}
use Rattle.dependency_index.proofs.index.put_all.Given as goal

abbrev pub invariant-loop-label : goal.invariant-loop-label
invariant-loop-label l = record {
  rising : Rises l.found.items;
  rest : with_numbers (drop l.label-index l.labels) l.found.items ≡ with_numbers l.labels l.initial.found.items;
}
