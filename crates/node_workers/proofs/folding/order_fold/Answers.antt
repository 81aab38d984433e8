use Rattle.node_workers.specs.Desks.{at_desk}
use Rattle.node_workers.proofs.FoldingLemmas.{folds_made}
use Rattle.node_workers.proofs.folding.order_fold.Goals as goal

pub returns-in-Ok-Order : goal.returns-in-Ok-Order
returns-in-Ok-Order g c =
    let before = c.args.pass.now in
    let now = c.ask_under_lock.new.pass in
    folds_made (at_desk c.args.desk.now).me c.args.own.id c.args.own.number c.args.own.token c.args.own.who c.args.own.inputs before.notes now.notes before.receipts.items now.receipts.items
    c.requires.token c.requires.who c.ask_under_lock.ensures.makes

pub returns : goal.returns
returns g c =
    let before = c.args.pass.now in
    let now = c.ask_under_lock.new.pass in
    folds_made (at_desk c.args.desk.now).me c.args.own.id c.args.own.number c.args.own.token c.args.own.who c.args.own.inputs before.notes now.notes before.receipts.items now.receipts.items
    c.requires.token c.requires.who c.ask_under_lock.ensures.makes
