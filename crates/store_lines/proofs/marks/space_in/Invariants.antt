use Rattle.std.proofs.Common.{take}
use Rattle.store_lines.specs.Lines.{Lacks}
use Rattle.store_lines.proofs.marks.space_in.Given as goal

abbrev pub invariant-loop-i : goal.invariant-loop-i
invariant-loop-i l = Lacks 32 (take l.i l.line)
