use Rattle.std.proofs.Common.{List, length, ap, ◌∙◌}
use Rattle.request_log.specs.declared.entry.Entry.{Entry}
use Rattle.service_repairs.proofs.FoldLemmas.{folds_all, folds_some}
use Rattle.service_repairs.proofs.folding.count_to.Goals as goal

pub returns-in-None-clause-count : goal.returns-in-None-clause-count
returns-in-None-clause-count c =
    c.len-all.ensures ∙ ap (λ (es : List Entry). length es) c.log.ensures.entries ∙ folds_all c.args.parts.now c.args.id c.in-None.ensures.place

pub returns-in-Some-clause-count : goal.returns-in-Some-clause-count
returns-in-Some-clause-count c = folds_some c.args.parts.now c.args.id c.in-Some.place c.in-Some.ensures.place
