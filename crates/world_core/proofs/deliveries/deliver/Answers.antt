use Rattle.std.proofs.Common.{Ok, refl, sym, ◌∙◌}
use Rattle.world_events.specs.Ends.{IsThere, receiver}
use Rattle.world_events.specs.Events.{delivered, turn}
use Rattle.world_core.specs.Acting.{seen}
use Rattle.world_core.proofs.PartLemmas.{ends_of_packet, lacks_before, none_before, packet_at, packet_found, packet_handed, packet_told, subst2}
use Rattle.world_core.proofs.deliveries.deliver.Goals as goal

pub returns-in_err-reserve : goal.returns-in_err-reserve
returns-in_err-reserve c = lacks_before _ c.args.world.now.services.items c.args.world.now.packets.list c.reserve.new.self.list c.args.world.now.environment c.from_residual.result c.from_residual.ensures.1 c.reserve.ensures.list

pub returns-in_default : goal.returns-in_default
unfolding turn
returns-in_default c = none_before (λ x. delivered x c.args.number) c.args.world.now.services.items c.args.world.now.packets.list c.reserve.new.self.list c.args.world.now.environment c.args.number (rw c.in_default.is at c.get.ensures) c.reserve.ensures.list refl

pub located-requires : goal.located-requires
located-requires c =
    let w = c.args.world.now in
    let p = c.in-Some.packet.now in
    let is = packet_found p w.packets.list c.reserve.new.self.list c.args.number c.in-Some.ensures c.reserve.ensures.list in
    subst2 IsThere (sym c.deref.ensures.value) (sym c.receiver.ensures) (ends_of_packet (seen w) c.args.number p c.requires is).gets

pub returns-in_err-at : goal.returns-in_err-at
returns-in_err-at c = lacks_before _ c.args.world.now.services.items c.args.world.now.packets.list c.reserve.new.self.list c.args.world.now.environment c.from_residual-in_err-at.result c.from_residual-in_err-at.ensures.1 c.reserve.ensures.list

pub returns-in_err-served : goal.returns-in_err-served
unfolding turn
returns-in_err-served c =
    let w = c.args.world.now in
    let p = c.in-Some.packet.now in
    let s = c.index_mut.result.now in
    let end = packet_at (receiver p) c.receiver.result.now c.deref.result.now w.services.items c.reserve.new.self.list w.packets.list c.args.number p c.in_ok-at.at s
    c.in-Some.ensures c.reserve.ensures.list c.deref.ensures.value c.receiver.ensures c.in_ok-at.ensures.place c.index_mut.ensures.value in
    packet_handed (λ x. delivered x c.args.number) w.services.items w.packets.list c.reserve.new.self.list w.environment (receiver p) c.args.number p c.in_ok-at.at s end c.reserve.ensures.list
    c.deliver_to.new.environment c.deliver_to.new.service c.in_err-served.field-0.0 c.from_residual-in_err-served.result c.from_residual-in_err-served.ensures.1 c.in_err-served.ensures

pub returns : goal.returns
unfolding turn
returns c =
    let w = c.args.world.now in
    let p = c.in-Some.packet.now in
    let s = c.index_mut.result.now in
    let end = packet_at (receiver p) c.receiver.result.now c.deref.result.now w.services.items c.reserve.new.self.list w.packets.list c.args.number p c.in_ok-at.at s
    c.in-Some.ensures c.reserve.ensures.list c.deref.ensures.value c.receiver.ensures c.in_ok-at.ensures.place c.index_mut.ensures.value in
    packet_told (λ x. delivered x c.args.number) w.services.items w.packets.list c.reserve.new.self.list w.environment (receiver p) c.args.number p c.in_ok-at.at s end c.reserve.ensures.list
    c.tell.new.packets.list c.deliver_to.new.environment c.deliver_to.new.service c.in_ok-served.served (Ok c.tell.result) _ c.tell.ensures.list c.tell.ensures.told (c.in_ok-at.ensures.name ∙ c.receiver.ensures) c.in_ok-served.ensures
