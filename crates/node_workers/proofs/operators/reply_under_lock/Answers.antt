use Rattle.std.proofs.Common.{rules, subst}
use Rattle.node_workers.proofs.OperatorLemmas.{asks_nothing, reply_makes, reply_told, report_told}
use Rattle.node_workers.specs.Desks.{at_desk, IsServiceOf}
use Rattle.node_workers.proofs.operators.reply_under_lock.Goals as goal

pub returns-then-not-is_service_of-clause-makes : goal.returns-then-not-is_service_of-clause-makes
returns-then-not-is_service_of-clause-makes g c =
    asks_nothing (at_desk c.args.desk.now).me c.args.inputs c.args.who c.args.asked c.args.pass.now.notes c.args.pass.now.receipts.items

pub returns-clause-report : goal.returns-clause-report
returns-clause-report g c = report_told _ c.carry_out.new.desk c.args.inputs c.args.asked c.args.who c.carry_out.result c.carry_out.ensures.desk

pub returns-clause-told : goal.returns-clause-told
returns-clause-told g c =
    let of = subst (IsServiceOf (at_desk c.args.desk.now).me) c.service.ensures (c.is_service_of.ensures c.if-not-is_service_of.false) in
    reply_told _ c.carry_out.new.desk c.args.inputs (at_desk c.args.desk.now) of c.requires.fresh c.args.asked c.args.who c.carry_out.result _
    c.carry_out.ensures.desk (search rules)

pub returns-clause-makes : goal.returns-clause-makes
returns-clause-makes g c =
    let of = subst (IsServiceOf (at_desk c.args.desk.now).me) c.service.ensures (c.is_service_of.ensures c.if-not-is_service_of.false) in
    reply_makes _ c.carry_out.new.desk c.args.inputs (at_desk c.args.desk.now).me of.is c.args.asked c.args.who c.carry_out.result _ _ c.carry_out.ensures.desk
    c.carry_out.ensures.desk_err (search rules) (search rules)
