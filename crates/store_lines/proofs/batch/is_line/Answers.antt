use Rattle.store_lines.proofs.WholeLemmas.{line_at}
use Rattle.store_lines.proofs.batch.is_line.Goals as goal
use Rattle.store_lines.proofs.batch.is_line.Goals.{then-b-eq0-via-then-b-eq0, then-b-eq0-via-else-b-eq0+then-b-eq10}

pub returns-then-b-eq0-clause-no : goal.returns-then-b-eq0-clause-no
returns-then-b-eq0-clause-no c = λ is line.
    elim c.then-b-eq0.branch [
      | then-b-eq0-via-then-b-eq0 w ↦ (line_at c.args.line.now c.loop-b.b-index line c.loop-b-test.true).0 w.if-b-eq0.true
      | then-b-eq0-via-else-b-eq0+then-b-eq10 w ↦ (line_at c.args.line.now c.loop-b.b-index line c.loop-b-test.true).1 w.if-b-eq10.true
    ]
