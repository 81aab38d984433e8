use Rattle.service_events.specs.State.{Kept}
use Rattle.admin_console.specs.Answers.{MakesOrder}
use Rattle.admin_console.proofs.AnswerLemmas.{answered, unanswered}
use Rattle.admin_console.proofs.answering.answer.Goals as goal

pub returns-clause-desk : goal.returns-clause-desk
returns-clause-desk g c =
    answered g.O.Orders.kept g.O.Orders.waits g.O.Orders.made c.args.desk.now c.args.inputs c.carry_out.new.desk c.in_ok-asked.asked c.in_ok-who.who c.args.request.now c.carry_out.result
    c.in_ok-asked.ensures c.in_ok-who.ensures c.carry_out.ensures.desk

pub returns-clause-service : goal.returns-clause-service
returns-clause-service g c =
    answered (λ (s : Kept). s) (λ _. g.O.Orders.waits c.args.desk.now) MakesOrder (g.O.Orders.kept c.args.desk.now) c.args.inputs (g.O.Orders.kept c.carry_out.new.desk) c.in_ok-asked.asked c.in_ok-who.who c.args.request.now c.carry_out.result
    c.in_ok-asked.ensures c.in_ok-who.ensures c.carry_out.ensures.service

pub returns-clause-desk_err : goal.returns-clause-desk_err
returns-clause-desk_err g c =
    unanswered g.O.Orders.made c.args.desk.now c.args.inputs c.carry_out.new.desk c.in_ok-asked.asked c.in_ok-who.who c.args.request.now c.carry_out.result
    c.in_ok-asked.ensures c.in_ok-who.ensures c.carry_out.ensures.desk_err

pub returns-clause-service_err : goal.returns-clause-service_err
returns-clause-service_err g c =
    unanswered MakesOrder (g.O.Orders.kept c.args.desk.now) c.args.inputs (g.O.Orders.kept c.carry_out.new.desk) c.in_ok-asked.asked c.in_ok-who.who c.args.request.now c.carry_out.result
    c.in_ok-asked.ensures c.in_ok-who.ensures c.carry_out.ensures.service_err
