use Rattle.std.proofs.Common.{map, ap, ◌∙◌, arith}
use Rattle.log_index.specs.Marks.{lowered}
use Rattle.log_index.proofs.MarkLemmas.{spliced}
use Rattle.log_index.proofs.numbers.lower_marks.Goals as goal

pub returns-clause-items : goal.returns-clause-items
returns-clause-items c =
    spliced (lowered c.args.n) c.args.marks.now.items c.lower_all.new.marks _ (c.lower_all.ensures ∙ ap (map (lowered c.args.n)) c.deref_mut.ensures.value)
    (let ok = c.args.marks.now.ok in omega arith)
