use Rattle.world_core.proofs.ServeLemmas.{call_serves}
use Rattle.world_core.proofs.requests.arrive_as_call.Goals as goal

pub returns-in-Ok : goal.returns-in-Ok
returns-in-Ok c =
    call_serves c.args.service.now c.arrive.new.self c.args.flight c.args.set.now c.args.request.now c.in_ok-from.request c.args.inputs c.in_ok-from.from c.in_ok-from.caller c.in_ok-from.back c.in-Ok.arrived
    c.went_on-told.result.0 c.went_on-told.result.1 c.in_ok-from.ensures.caller c.in_ok-from.ensures.request c.in_ok-from.ensures.back
    (record { is = c.in-Ok.ensures.does; from_it = c.in_ok-from.ensures.from; tells = c.went_on-told.ensures.told; sends = c.went_on-told.ensures.sent })
