use Rattle.std.proofs.Common.{take, get_or, length, subst, sym, ◌≤◌}
use Rattle.std.proofs.lemmas.List.{take_more, take_all}
use Rattle.store_lines.specs.Lines.{IsText}
use Rattle.store_lines.proofs.WholeLemmas.{IsText-push}
use Rattle.store_lines.proofs.ends.end_of.Goals as goal

pub loop-i-preserved : goal.loop-i-preserved
loop-i-preserved c =
    let bytes = c.args.bytes.now in
    let i = c.loop-i.i in
    subst IsText (sym (take_more bytes i 0 c.loop-i-test.true)) (IsText-push (take i bytes) (get_or bytes i 0) c.loop-i.invariant c.if-b-eq0.false c.if-b-eq10.false)

pub returns-clause-none : goal.returns-clause-none
returns-clause-none c =
    let past : length c.args.bytes.now ≤ c.loop-i.i = c.loop-i-test.false in
    subst IsText (take_all c.loop-i.i c.args.bytes.now past) c.loop-i.invariant
