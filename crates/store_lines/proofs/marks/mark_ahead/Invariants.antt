use Rattle.store_lines.proofs.WindowLemmas.{NoneBefore}
use Rattle.store_lines.proofs.marks.mark_ahead.Given as goal

abbrev pub invariant-loop-at : goal.invariant-loop-at
invariant-loop-at l = NoneBefore l.lines l.at l.bytes
