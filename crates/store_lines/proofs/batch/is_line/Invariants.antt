use Rattle.std.proofs.Common.{drop}
use Rattle.store_lines.specs.Lines.{IsText}
use Rattle.store_lines.proofs.batch.is_line.Given as goal

abbrev pub invariant-loop-b : goal.invariant-loop-b
invariant-loop-b l = IsText (drop l.b-index l.line) → IsText l.line
