use Rattle.std.proofs.Common.{List, Ok, ap, refl}
use Rattle.world_events.specs.Events.{Turn, arrive_served, drawing_at, turn}
use Rattle.world_events.specs.Worlds.{World}
use Rattle.world_events.specs.declared.packet.Packet.{Packet}
use Rattle.world_core.specs.Environments.{world_of}
use Rattle.world_core.proofs.ActLemmas.{drawing_acts}
use Rattle.world_core.proofs.PartLemmas.{at_place, ready_place, lacks_all, lacked, nowhere_by, turns_told}
use Rattle.world_core.proofs.events.begin.Goals as goal

pub returns-in_err-at : goal.returns-in_err-at
unfolding turn
returns-in_err-at c =
    let w = c.args.world.now in
    nowhere_by _ _ c.args.service _ c.in_err-at.field-0.0 c.from_residual.result c.deref.result.now c.from_residual.ensures.1 c.deref.ensures.value c.in_err-at.ensures.place
    (ap (λ (ps : List Packet). world_of w.services.items ps w.environment) c.ready.ensures.list)

pub returns-in_err-served : goal.returns-in_err-served
unfolding turn
returns-in_err-served c =
    let w = c.args.world.now in
    let s = c.index_mut.result.now in
    let act : World → Turn = λ x. drawing_at c.args.service x (arrive_served x.packets c.args.request) in
    let there = at_place c.args.service w.services.items c.in_ok-at.at s (ready_place c.args.service c.deref.result.now w.services.items c.in_ok-at.at c.deref.ensures.value c.in_ok-at.ensures.place) c.index_mut.ensures.value in
    lacks_all _ _ _ c.from_residual-in_err-served.result c.from_residual-in_err-served.ensures.1
    (lacked act w.services.items w.packets.list w.environment c.args.service c.in_ok-at.at s there _ _ _ c.arrive.new.service refl c.ready.ensures.list (c.in_err-served.ensures w.packets.list) refl)

pub returns : goal.returns
unfolding turn
returns c =
    let w = c.args.world.now in
    let packets = w.packets.list in
    let s = c.index_mut.result.now in
    let there = at_place c.args.service w.services.items c.in_ok-at.at s (ready_place c.args.service c.deref.result.now w.services.items c.in_ok-at.at c.deref.ensures.value c.in_ok-at.ensures.place) c.index_mut.ensures.value in
    turns_told (λ x. drawing_at c.args.service x (arrive_served x.packets c.args.request)) w.services.items packets w.environment c.args.service c.in_ok-at.at s there
    c.ready.new.packets.list c.tell.new.packets.list c.use_up.new.self c.arrive.new.service c.in_ok-served.served (Ok c.tell.result)
    c.ready.ensures.list c.tell.ensures.list c.tell.ensures.told
    (λ all found. drawing_acts all packets c.args.service s found w.environment c.use_up.new.self (arrive_served packets c.args.request) c.draw-drawn.result.inputs c.draw-drawn.result.word c.arrive.new.service c.in_ok-served.served
    c.draw-drawn.ensures.inputs c.draw-drawn.ensures.word c.use_up.ensures (c.in_ok-served.ensures packets))
