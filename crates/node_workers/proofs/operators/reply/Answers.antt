use Rattle.admin_console.specs.Asking.{asked_in}
use Rattle.node_workers.proofs.OperatorLemmas.{asks_nothing, request_makes, request_told}
use Rattle.node_workers.specs.Desks.{at_desk}
use Rattle.node_workers.proofs.operators.reply.Goals as goal

pub returns-in_err-who-clause-makes : goal.returns-in_err-who-clause-makes
returns-in_err-who-clause-makes g c =
    let request = c.args.request.now in
    asks_nothing (at_desk c.args.desk.now).me c.args.inputs request.who (asked_in request) c.args.pass.now.notes c.args.pass.now.receipts.items

pub returns-in_err-asked-clause-makes : goal.returns-in_err-asked-clause-makes
returns-in_err-asked-clause-makes g c =
    let request = c.args.request.now in
    asks_nothing (at_desk c.args.desk.now).me c.args.inputs request.who (asked_in request) c.args.pass.now.notes c.args.pass.now.receipts.items

pub returns-clause-told : goal.returns-clause-told
returns-clause-told g c =
    request_told (at_desk c.args.desk.now) c.args.inputs c.reply_at_node.new.pass.notes c.in_ok-asked.asked c.in_ok-who.who c.args.request.now c.reply_at_node.result
    c.in_ok-asked.ensures c.in_ok-who.ensures c.reply_at_node.ensures.told

pub returns-clause-makes : goal.returns-clause-makes
returns-clause-makes g c =
    let before = c.args.pass.now in
    let now = c.reply_at_node.new.pass in
    request_makes (at_desk c.args.desk.now).me c.args.inputs before.notes now.notes before.receipts.items now.receipts.items c.in_ok-asked.asked c.in_ok-who.who
    c.args.request.now c.in_ok-asked.ensures c.in_ok-who.ensures c.reply_at_node.ensures.makes
