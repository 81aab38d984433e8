use Rattle.std.proofs.Common.{◌≡◌, ◌++◌, map, take, drop}
use Rattle.log_index.specs.Marks.{lowered}
use Rattle.log_index.proofs.numbers.lower_all.Given as goal

abbrev pub invariant-loop-mark : goal.invariant-loop-mark
invariant-loop-mark l = l.marks ≡ map (lowered l.n) (take l.mark-index l.initial.marks) ++ drop l.mark-index l.initial.marks
