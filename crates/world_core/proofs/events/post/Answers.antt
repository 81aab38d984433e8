use Rattle.std.proofs.Common.{List, ◌++◌, Some, None, Ok, ap, option_to_list, set, sym, ◌∙◌, refl, subst}
use Rattle.std.proofs.lemmas.List.{set-get_or}
use Rattle.world_events.specs.Events.{Turn, at_service, next_post_served, turn}
use Rattle.world_events.specs.Turns.{Turns}
use Rattle.world_events.specs.declared.packet.Packet.{Packet}
use Rattle.world_core.specs.Acting.{seen, told}
use Rattle.world_core.specs.Environments.{world_of}
use Rattle.world_core.proofs.ActLemmas.{service_acts}
use Rattle.world_core.proofs.PartLemmas.{at_place, lacks_all, lent_beside, posted_there, posts_well, turns_done, unposted}
use Rattle.world_core.proofs.events.post.Goals as goal

pub returns-in_default-clause-turns : goal.returns-in_default-clause-turns
unfolding turn
returns-in_default-clause-turns c = (unposted (seen c.args.world.now) c.args.from c.args.to (lent_beside (seen c.args.world.now) c.args.from c.args.to c.deref.result.now None c.deref.ensures.value (rw c.in_default.is at c.place_beside.ensures))).0

pub returns-in_default-clause-well : goal.returns-in_default-clause-well
returns-in_default-clause-well c = (unposted (seen c.args.world.now) c.args.from c.args.to (lent_beside (seen c.args.world.now) c.args.from c.args.to c.deref.result.now None c.deref.ensures.value (rw c.in_default.is at c.place_beside.ensures))).1

pub returns-in_err-served-clause-turns : goal.returns-in_err-served-clause-turns
returns-in_err-served-clause-turns c = lacks_all _ _ _ c.from_residual.result c.from_residual.ensures.1 refl

pub returns-in_err-served-clause-well : goal.returns-in_err-served-clause-well
returns-in_err-served-clause-well c =
    let w = c.args.world.now in
    let s = c.index.result.now in
    let beside = posted_there (seen w) c.args.from c.args.to c.in-Some.at (lent_beside (seen w) c.args.from c.args.to c.deref.result.now (Some c.in-Some.at) c.deref.ensures.value c.in-Some.ensures) in
    posts_well (seen w) c.args.from c.args.to s (at_place c.args.from w.services.items c.in-Some.at s beside.0 c.index.ensures).found c.next_post.ensures.goes

pub returns-in_err-reserve-clause-turns : goal.returns-in_err-reserve-clause-turns
returns-in_err-reserve-clause-turns c =
    let w = c.args.world.now in
    lacks_all _ _ _ c.from_residual-in_err-reserve.result c.from_residual-in_err-reserve.ensures.1
    (ap (λ (ps : List Packet). world_of w.services.items ps w.environment) c.reserve.ensures.list)

pub returns-in_err-reserve-clause-well : goal.returns-in_err-reserve-clause-well
returns-in_err-reserve-clause-well c =
    let w = c.args.world.now in
    let s = c.index.result.now in
    let beside = posted_there (seen w) c.args.from c.args.to c.in-Some.at (lent_beside (seen w) c.args.from c.args.to c.deref.result.now (Some c.in-Some.at) c.deref.ensures.value c.in-Some.ensures) in
    posts_well (seen w) c.args.from c.args.to s (at_place c.args.from w.services.items c.in-Some.at s beside.0 c.index.ensures).found c.next_post.ensures.goes

pub returns-clause-turns : goal.returns-clause-turns
unfolding turn
returns-clause-turns c =
    let w = c.args.world.now in
    let packets = w.packets.list in
    let s = c.index.result.now in
    let beside = posted_there (seen w) c.args.from c.args.to c.in-Some.at (lent_beside (seen w) c.args.from c.args.to c.deref.result.now (Some c.in-Some.at) c.deref.ensures.value c.in-Some.ensures) in
    let there = at_place c.args.from w.services.items c.in-Some.at s beside.0 c.index.ensures in
    let T : Turn → Type 0 = λ t. Turns t (seen w) (Ok c.tell.result) (world_of w.services.items c.tell.new.packets.list w.environment) in
    subst T (sym beside.1)
    (turns_done (λ x. at_service c.args.from x (next_post_served c.args.to)) w.services.items packets w.environment c.args.from c.in-Some.at s there
    w.services.items c.tell.new.packets.list w.environment s c.in_ok-served.served (Ok c.tell.result)
    (sym (ap (λ x. set w.services.items c.in-Some.at x) there.itself ∙ set-get_or w.services.items c.in-Some.at s))
    (c.tell.ensures.list ∙ ap (λ ps. ps ++ option_to_list (c.in_ok-served.served).packet) c.reserve.ensures.list)
    (c.tell.ensures.told ∙ ap (λ ps. told c.args.from ps (Ok c.in_ok-served.served)) c.reserve.ensures.list)
    (λ all found. service_acts all packets c.args.from s found w.environment (next_post_served c.args.to) s c.in_ok-served.served c.in_ok-served.ensures.served))

pub returns-clause-well : goal.returns-clause-well
returns-clause-well c =
    let w = c.args.world.now in
    let s = c.index.result.now in
    let beside = posted_there (seen w) c.args.from c.args.to c.in-Some.at (lent_beside (seen w) c.args.from c.args.to c.deref.result.now (Some c.in-Some.at) c.deref.ensures.value c.in-Some.ensures) in
    posts_well (seen w) c.args.from c.args.to s (at_place c.args.from w.services.items c.in-Some.at s beside.0 c.index.ensures).found c.next_post.ensures.goes
