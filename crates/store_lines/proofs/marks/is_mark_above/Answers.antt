use Rattle.std.proofs.Common.{◌≡◌}
use Rattle.store_lines.specs.Seals.{spelled}
use Rattle.store_lines.proofs.WindowLemmas.{no_mark_above}
use Rattle.store_lines.proofs.marks.is_mark_above.Goals as goal

pub returns-clause-no : goal.returns-clause-no
returns-clause-no c = λ no above.
    let right : spelled c.in-Some.number c.in-Some-2.piece ≡ c.args.line.now = rw c.in-Some-2.is at c.in_ok-piece.ensures.right in
    no_mark_above c.args.lines c.in-Some.number c.in-Some-2.piece c.args.line.now (c.is_mark.ensures.no no) right above
