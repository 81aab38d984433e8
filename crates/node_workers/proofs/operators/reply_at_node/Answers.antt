use Rattle.node_workers.proofs.OperatorLemmas.{asked_keeps}
use Rattle.node_workers.specs.Desks.{at_desk}
use Rattle.node_workers.proofs.operators.reply_at_node.Goals as goal

pub returns-clause-keeps : goal.returns-clause-keeps
returns-clause-keeps g c =
    let before = c.args.pass.now in
    let now = c.reply_under_lock.new.pass in
    asked_keeps (at_desk c.args.desk.now).me c.args.inputs c.args.who c.args.asked before.notes now.notes before.receipts.items now.receipts.items c.reply_under_lock.ensures.makes
