use Rattle.std.proofs.Common.{refl, sym, ap, ◌∙◌}
use Rattle.world_events.specs.Events.{call_arrive_served, call_delivered}
use Rattle.world_core.specs.Environments.{world_of}
use Rattle.world_core.proofs.ActLemmas.{drawing_acts, no_call_acts}
use Rattle.world_core.proofs.PartLemmas.{lacks_acts}
use Rattle.world_core.proofs.deliveries.deliver_call.Goals as goal

pub returns-in_default : goal.returns-in_default
returns-in_default c packets all found =
    no_call_acts all packets c.args.set.now.dest c.args.service.now found c.args.environment.now c.args.number c.args.flight c.args.set.now c.args.set.now.desired c.in_default.is

pub returns-in_err-served : goal.returns-in_err-served
returns-in_err-served c packets = lacks_acts (λ w. call_delivered w c.args.number c.args.flight c.args.set.now c.args.set.now.desired) _ packets _ _ c.from_residual.result _ _ c.from_residual.ensures.1 c.in_err-served.ensures refl

pub returns : goal.returns
returns c packets all found =
    drawing_acts all packets c.args.set.now.dest c.args.service.now found c.args.environment.now c.use_up.new.self (call_arrive_served c.args.flight c.args.set.now c.in-Some.request)
    c.draw-drawn.result.inputs c.draw-drawn.result.word c.arrive_as_call.new.service c.in_ok-served.served
    c.draw-drawn.ensures.inputs c.draw-drawn.ensures.word c.use_up.ensures c.in_ok-served.ensures
    ∙ ap (call_delivered (world_of all packets c.args.environment.now) c.args.number c.args.flight c.args.set.now) (sym c.in-Some.is)
