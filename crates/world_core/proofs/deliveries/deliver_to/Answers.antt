use Rattle.std.proofs.Common.{Some, Ok, refl}
use Rattle.world_events.specs.Ends.{receiver}
use Rattle.world_events.specs.Events.{delivered, posted_served, sender}
use Rattle.world_core.proofs.ActLemmas.{by_packet, service_acts}
use Rattle.world_core.proofs.PartLemmas.{lacks_acts}
use Rattle.world_core.proofs.deliveries.deliver_to.Goals as goal

pub returns-in-Call : goal.returns-in-Call
returns-in-Call c =
    by_packet (λ w p. delivered w c.args.number (Some p)) receiver c.args.packets.now.list c.args.service.now c.args.environment.now c.deliver_call.result c.deliver_call.new.service c.deliver_call.new.environment
    _ c.args.packet.now c.in-Call.is (c.deliver_call.ensures c.args.packets.now.list)

pub returns-in-CallReply : goal.returns-in-CallReply
returns-in-CallReply c =
    by_packet (λ w p. delivered w c.args.number (Some p)) receiver c.args.packets.now.list c.args.service.now c.args.environment.now c.deliver_reply.result c.deliver_reply.new.service c.args.environment.now
    _ c.args.packet.now c.in-CallReply.is (c.deliver_reply.ensures _ c.args.environment.now)

pub returns-in-Post : goal.returns-in-Post
returns-in-Post c =
    by_packet (λ w p. delivered w c.args.number (Some p)) receiver c.args.packets.now.list c.args.service.now c.args.environment.now c.deliver_post.result c.deliver_post.new.service c.deliver_post.new.environment
    _ c.args.packet.now c.in-Post.is (c.deliver_post.ensures c.args.packets.now.list)

pub returns-in_err-served-in-PostReply : goal.returns-in_err-served-in-PostReply
returns-in_err-served-in-PostReply c = lacks_acts (λ w. delivered w c.args.number (Some c.args.packet.now)) _ c.args.packets.now.list _ _ c.from_residual.result _ _ c.from_residual.ensures.1 c.in_err-served-in-PostReply.ensures refl

pub returns-in_ok-served-in-PostReply : goal.returns-in_ok-served-in-PostReply
returns-in_ok-served-in-PostReply c =
    let post = c.in-PostReply.post in
    let reply = c.in-PostReply.reply in
    by_packet (λ w p. delivered w c.args.number (Some p)) receiver c.args.packets.now.list c.args.service.now c.args.environment.now (Ok c.in_ok-served-in-PostReply.served) c.posted_reply.new.service c.args.environment.now
    _ c.args.packet.now c.in-PostReply.is
    (λ all found. service_acts all c.args.packets.now.list (sender post) c.args.service.now found c.args.environment.now (posted_served post reply) c.posted_reply.new.service c.in_ok-served-in-PostReply.served
    c.in_ok-served-in-PostReply.ensures)
