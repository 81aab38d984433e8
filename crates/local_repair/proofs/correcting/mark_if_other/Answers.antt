use Rattle.local_repair.proofs.CorrectionLemmas.{place_left, place_marked}
use Rattle.local_repair.proofs.correcting.mark_if_other.Goals as goal

pub returns-then-not-is_other : goal.returns-then-not-is_other
returns-then-not-is_other c = place_left c.args.number c.args.place c.args.entry.now c.args.marks.now (c.is_other.ensures c.if-not-is_other.true)

pub returns : goal.returns
returns c = place_marked c.args.number c.args.place c.args.entry.now c.args.marks.now c.mark.new.self c.mark.ensures.reads c.mark.ensures.marks
