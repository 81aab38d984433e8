use Rattle.std.proofs.Common.{◌<◌, length}
use Rattle.key_labels.proofs.hints.hinted.Given as goal

abbrev pub invariant-loop : goal.invariant-loop
invariant-loop l = l.cell < length l.hints
