use Rattle.service_repairs.proofs.FoldLemmas.{fold_is, quiet_ran}
use Rattle.service_repairs.proofs.folding.fold.Goals as goal

pub fold-requires-clause-ran : goal.fold-requires-clause-ran
fold-requires-clause-ran c = quiet_ran c.args.parts.now c.args.id c.count_to-count.result c.requires c.count_to-count.ensures.count

pub returns-clause-ok : goal.returns-clause-ok
returns-clause-ok c =
    fold_is c.args.parts.now c.fold.new.self c.args.id c.count_to-count.result c.fold.result c.requires c.count_to-count.ensures.count c.count_to-count.ensures.within c.fold.ensures.ok
