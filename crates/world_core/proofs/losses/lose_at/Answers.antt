use Rattle.std.proofs.Common.{Some}
use Rattle.world_events.specs.Ends.{beginner}
use Rattle.world_events.specs.Events.{lost}
use Rattle.world_core.proofs.ActLemmas.{by_packet}
use Rattle.world_core.proofs.losses.lose_at.Goals as goal

pub returns-in-Call : goal.returns-in-Call
returns-in-Call c number =
    by_packet (λ w p. lost w number (Some p)) beginner c.args.packets.now.list c.args.service.now c.args.environment.now c.lose_call.result c.lose_call.new.service c.lose_call.new.environment
    _ c.args.packet.now c.in-Call.is (c.lose_call.ensures _)

pub returns-in-CallReply : goal.returns-in-CallReply
returns-in-CallReply c number =
    by_packet (λ w p. lost w number (Some p)) beginner c.args.packets.now.list c.args.service.now c.args.environment.now c.lose_call-in-CallReply.result c.lose_call-in-CallReply.new.service c.lose_call-in-CallReply.new.environment
    _ c.args.packet.now c.in-CallReply.is (c.lose_call-in-CallReply.ensures _)

pub returns-in-Post : goal.returns-in-Post
returns-in-Post c number =
    by_packet (λ w p. lost w number (Some p)) beginner c.args.packets.now.list c.args.service.now c.args.environment.now c.lose_post.result c.lose_post.new.service c.lose_post.new.environment
    _ c.args.packet.now c.in-Post.is (c.lose_post.ensures c.args.packets.now.list)

pub returns-in-PostReply : goal.returns-in-PostReply
returns-in-PostReply c number =
    by_packet (λ w p. lost w number (Some p)) beginner c.args.packets.now.list c.args.service.now c.args.environment.now c.lose_post-in-PostReply.result c.lose_post-in-PostReply.new.service c.lose_post-in-PostReply.new.environment
    _ c.args.packet.now c.in-PostReply.is (c.lose_post-in-PostReply.ensures c.args.packets.now.list)
