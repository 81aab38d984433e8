use Rattle.std.proofs.Common.{ap, ◌∙◌}
use Rattle.lang_core.specs.declared.setting.Setting.{Setting}
use Rattle.service_events.specs.State.{Kept, me}
use Rattle.admin_console.specs.Answers.{MakesOrder}
use Rattle.admin_console.proofs.AnswerLemmas.{told_order, untold_order}
use Rattle.admin_console.proofs.answering.make_order.Goals as goal

pub returns-clause-desk : goal.returns-clause-desk
returns-clause-desk g c =
    told_order g.O.Orders.kept g.O.Orders.waits g.O.Orders.made c.args.desk.now c.args.inputs c.order-ordered.new.self c.args.command c.args.token c.args.who c.order-ordered.result c.order_reply.result _
    c.order-ordered.ensures.desk (ap (λ (s : Setting). s.me) c.setting.ensures ∙ ap (λ (s : Kept). me s) c.service.ensures) c.order_reply.ensures

pub returns-clause-service : goal.returns-clause-service
returns-clause-service g c =
    told_order (λ (s : Kept). s) (λ _. g.O.Orders.waits c.args.desk.now) MakesOrder (g.O.Orders.kept c.args.desk.now) c.args.inputs (g.O.Orders.kept c.order-ordered.new.self) c.args.command c.args.token c.args.who c.order-ordered.result c.order_reply.result _
    c.order-ordered.ensures.service (ap (λ (s : Setting). s.me) c.setting.ensures ∙ ap (λ (s : Kept). me s) c.service.ensures) c.order_reply.ensures

pub returns-clause-desk_err : goal.returns-clause-desk_err
returns-clause-desk_err g c =
    untold_order g.O.Orders.made c.args.desk.now c.args.inputs c.order-ordered.new.self c.args.command c.args.token c.args.who c.order-ordered.result c.order_reply.result
    c.order-ordered.ensures.desk

pub returns-clause-service_err : goal.returns-clause-service_err
returns-clause-service_err g c =
    untold_order MakesOrder (g.O.Orders.kept c.args.desk.now) c.args.inputs (g.O.Orders.kept c.order-ordered.new.self) c.args.command c.args.token c.args.who c.order-ordered.result c.order_reply.result
    c.order-ordered.ensures.service
