use Rattle.std.proofs.Common.{◌<◌, length}
use Rattle.key_labels.proofs.hints.free_cell.Given as goal

abbrev pub invariant-loop : goal.invariant-loop
invariant-loop l = record {
  cell : l.cell < length l.hints;
  first : l.first < length l.hints;
}
