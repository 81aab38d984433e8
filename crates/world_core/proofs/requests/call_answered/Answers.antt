use Rattle.world_core.proofs.ServeLemmas.{answered_serves}
use Rattle.world_core.proofs.requests.call_answered.Goals as goal

pub returns-in-Ok : goal.returns-in-Ok
returns-in-Ok c =
    answered_serves c.args.packets.now.list c.args.service.now c.call_answered.new.self c.args.flight c.args.answer.now c.in_ok-from.from c.in_ok-from.back c.in-Ok.arrived c.went_on-told.result.0
    c.went_on-told.result.1 c.in_ok-from.ensures.back
    (record { is = c.in-Ok.ensures.does; from_it = c.in_ok-from.ensures.name; tells = c.went_on-told.ensures.told; sends = c.went_on-told.ensures.sent })
