use Rattle.std.proofs.Common.{List, Ok, ap, refl}
use Rattle.world_events.specs.Events.{abandon_turn, turn}
use Rattle.world_events.specs.declared.event.WorldStepRefused.TheVariants.{NoFlight}
use Rattle.world_events.specs.declared.packet.Packet.{Packet}
use Rattle.world_core.specs.Environments.{world_of}
use Rattle.world_core.proofs.ActLemmas.{abandon_acts, no_flight_acts}
use Rattle.world_core.proofs.PartLemmas.{at_place, ready_place, nowhere_by, turns_refused, turns_told}
use Rattle.world_core.proofs.events.abandon.Goals as goal

pub returns-in_err-at : goal.returns-in_err-at
unfolding turn
returns-in_err-at c =
    let w = c.args.world.now in
    nowhere_by _ _ c.args.service _ c.in_err-at.field-0.0 c.from_residual.result c.deref.result.now c.from_residual.ensures.1 c.deref.ensures.value c.in_err-at.ensures.place
    (ap (λ (ps : List Packet). world_of w.services.items ps w.environment) c.ready.ensures.list)

pub returns-in-None : goal.returns-in-None
unfolding turn
returns-in-None c =
    let w = c.args.world.now in
    let s = c.index_mut.result.now in
    let there = at_place c.args.service w.services.items c.in_ok-at.at s (ready_place c.args.service c.deref.result.now w.services.items c.in_ok-at.at c.deref.ensures.value c.in_ok-at.ensures.place) c.index_mut.ensures.value in
    turns_refused (λ x. abandon_turn x c.args.service c.args.flight) w.services.items w.packets.list w.environment c.args.service c.in_ok-at.at s there
    _ c.ready.new.packets.list w.environment c.abandon.new.service (NoFlight c.args.flight) refl c.ready.ensures.list
    (λ all found. no_flight_acts all w.packets.list c.args.service s found w.environment c.abandon.new.service c.args.flight c.in-None.ensures.0 c.in-None.ensures.1)

pub returns-in-Some : goal.returns-in-Some
unfolding turn
returns-in-Some c =
    let w = c.args.world.now in
    let packets = w.packets.list in
    let s = c.index_mut.result.now in
    let there = at_place c.args.service w.services.items c.in_ok-at.at s (ready_place c.args.service c.deref.result.now w.services.items c.in_ok-at.at c.deref.ensures.value c.in_ok-at.ensures.place) c.index_mut.ensures.value in
    turns_told (λ x. abandon_turn x c.args.service c.args.flight) w.services.items packets w.environment c.args.service c.in_ok-at.at s there
    c.ready.new.packets.list c.tell.new.packets.list w.environment c.abandon.new.service c.in-Some.served (Ok c.tell.result)
    c.ready.ensures.list c.tell.ensures.list c.tell.ensures.told
    (λ all found. abandon_acts all packets c.args.service s found w.environment c.abandon.new.service c.args.flight c.in-Some.served c.in-Some.ensures.0 c.in-Some.ensures.1)
