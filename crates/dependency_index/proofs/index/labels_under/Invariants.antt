use Rattle.std.proofs.Common.{◌≡◌}
use Rattle.dependency_index.specs.Numbers.{Rises}
use Rattle.dependency_index.specs.Rows.{under}
use Rattle.dependency_index.proofs.index.labels_under.Given as goal

abbrev pub invariant-loop-end : goal.invariant-loop-end
invariant-loop-end l = record {
  rising : Rises l.found.items;
  all : l.found.items ≡ under l.rows.items l.table l.key l.end;
}
