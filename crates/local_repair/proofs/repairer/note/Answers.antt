use Rattle.std.proofs.Common.{sym, ap, ◌∙◌, get_or, set, arith}
use Rattle.local_repair.specs.Settling.{noted}
use Rattle.local_repair.specs.Written.{all_written}
use Rattle.local_repair.proofs.StepLemmas.{entry_at}
use Rattle.local_repair.proofs.WrittenLemmas.{written_set}
use Rattle.local_repair.proofs.repairer.note.Goals as goal

pub overflow_add-place : goal.overflow_add-place
overflow_add-place c =
    let within = c.requires.within in
    let few = c.requires.few in
    omega arith

pub returns-clause-tied : goal.returns-clause-tied
returns-clause-tied c =
    let es = c.args.log.now.entries in
    let place = c.args.place in
    let was = (entry_at es place c.requires.within).0 in
    let writes = c.args.again.made.trace.writes in
    c.set.ensures.writes ∙ ap (λ w. set w place writes) c.requires.tied
    ∙ sym (ap all_written (c.note_run.ensures.entries was) ∙ written_set es place (noted c.args.again (get_or es place was)))
