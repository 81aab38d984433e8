use Rattle.std.proofs.Common.{take}
use Rattle.store_lines.specs.Lines.{IsText}
use Rattle.store_lines.proofs.ends.end_of.Given as goal

abbrev pub invariant-loop-i : goal.invariant-loop-i
invariant-loop-i l = IsText (take l.i l.bytes)
