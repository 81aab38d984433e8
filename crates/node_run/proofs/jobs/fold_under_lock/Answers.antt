use Rattle.std.proofs.Common.{inl, refl}
use Rattle.node_workers.specs.Desks.{at_desk}
use Rattle.node_run.proofs.TurnLemmas.{folded_once}
use Rattle.node_run.proofs.jobs.fold_under_lock.Goals as goal

pub returns-in-Nothing : goal.returns-in-Nothing
returns-in-Nothing g c = inl refl

pub returns-in-Refused : goal.returns-in-Refused
returns-in-Refused g c = inl refl

pub returns-in-Waits : goal.returns-in-Waits
returns-in-Waits g c = inl refl

pub returns-in-UpTo : goal.returns-in-UpTo
returns-in-UpTo g c =
    let before = c.args.pass.now in
    let now = c.fold_up_to.new.pass in
    folded_once (at_desk c.args.desk.now).me before.notes now.notes before.receipts.items now.receipts.items c.fold_up_to.ensures
