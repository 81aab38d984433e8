use Rattle.local_repair.specs.Corrections.{IsMarkedByHandlers}
use Rattle.local_repair.proofs.correcting.mark_others.Given as goal

abbrev pub invariant-loop-place : goal.invariant-loop-place
invariant-loop-place l = IsMarkedByHandlers l.number l.place l.entries l.initial.marks l.marks
