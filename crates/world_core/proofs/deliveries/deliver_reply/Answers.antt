use Rattle.std.proofs.Common.{refl, sym, ap, ◌∙◌}
use Rattle.call_registers.specs.declared.register.Why.TheVariants.{Refused}
use Rattle.world_events.specs.Events.{call_answered_served, call_failed_served, reply_delivered}
use Rattle.world_core.specs.Environments.{world_of}
use Rattle.world_core.proofs.ActLemmas.{service_acts}
use Rattle.world_core.proofs.PartLemmas.{lacks_acts}
use Rattle.world_core.proofs.deliveries.deliver_reply.Goals as goal

pub returns-in_err-served-in-Answer : goal.returns-in_err-served-in-Answer
returns-in_err-served-in-Answer c name e = lacks_acts (λ w. reply_delivered w name c.args.flight c.args.number c.args.reply.now) name _ _ e c.from_residual.result _ _ c.from_residual.ensures.1 c.in_err-served-in-Answer.ensures refl

pub returns-in_ok-served-in-Answer : goal.returns-in_ok-served-in-Answer
returns-in_ok-served-in-Answer c name e all found =
    let packets = c.args.packets.now.list in
    service_acts all packets name c.args.service.now found e (call_answered_served packets c.args.flight c.in-Answer.answer) c.call_answered.new.service c.in_ok-served-in-Answer.served c.in_ok-served-in-Answer.ensures
    ∙ ap (reply_delivered (world_of all packets e) name c.args.flight c.args.number) (sym c.in-Answer.is)

pub returns-in_err-served-in-Refused : goal.returns-in_err-served-in-Refused
returns-in_err-served-in-Refused c name e = lacks_acts (λ w. reply_delivered w name c.args.flight c.args.number c.args.reply.now) name _ _ e c.from_residual-in_err-served-in-Refused.result _ _ c.from_residual-in_err-served-in-Refused.ensures.1 c.in_err-served-in-Refused.ensures refl

pub returns-in_ok-served-in-Refused : goal.returns-in_ok-served-in-Refused
returns-in_ok-served-in-Refused c name e all found =
    let packets = c.args.packets.now.list in
    let why = Refused c.in-Refused.word c.in-Refused.n in
    service_acts all packets name c.args.service.now found e (call_failed_served packets c.args.flight c.args.number why) c.call_failed.new.service c.in_ok-served-in-Refused.served c.in_ok-served-in-Refused.ensures
    ∙ ap (reply_delivered (world_of all packets e) name c.args.flight c.args.number) (sym c.in-Refused.is)
