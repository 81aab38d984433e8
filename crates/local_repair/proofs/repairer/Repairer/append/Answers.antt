use Rattle.std.proofs.Common.{ap, ◌∙◌, insert, length}
use Rattle.std.proofs.lemmas.List.Edits.{insert_end}
use Rattle.std.proofs.lemmas.Result.{on_ok_weaker}
use Rattle.local_repair.specs.Repairs.{KeptRepairer}
use Rattle.local_repair.proofs.repairer.Repairer.append.Goals as goal

pub returns-clause-ok : goal.returns-clause-ok
returns-clause-ok c =
    let es = c.args.self.now.entries in
    on_ok_weaker c.insert_at.result
    (λ put. put ∙ ap (λ n. insert es n c.args.entry) (c.len-end.ensures ∙ ap (λ (k : KeptRepairer). length k.entries) c.self.view_is) ∙ insert_end es c.args.entry)
    c.insert_at.ensures.ok
