use Rattle.world_core.proofs.ServeLemmas.{failed_serves}
use Rattle.world_core.proofs.requests.call_failed.Goals as goal

pub returns-in-Ok : goal.returns-in-Ok
returns-in-Ok c =
    failed_serves c.args.packets.now.list c.args.service.now c.call_failed.new.self c.args.flight c.args.number c.args.why c.in_ok-from.from c.in_ok-from.back c.in-Ok.arrived
    c.went_on-told.result.0 c.went_on-told.result.1 c.in_ok-from.ensures.back
    (record { is = c.in-Ok.ensures.does; from_it = c.in_ok-from.ensures.name; tells = c.went_on-told.ensures.told; sends = c.went_on-told.ensures.sent })
