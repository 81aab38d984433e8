use Rattle.std.proofs.Common.{subst}
use Rattle.http_front.specs.declared.message.WireResponse.{WireResponse}
use Rattle.node_exchanges.specs.Replies.{IsSaid}
use Rattle.node_exchanges.proofs.replies.say.Goals as goal

pub returns-in-Ok-clause-said : goal.returns-in-Ok-clause-said
returns-in-Ok-clause-said g c =
    subst (λ (r : WireResponse). IsSaid r (g.C.Sink.writes c.args.conn.now) (g.C.Sink.writes c.write.new.conn) c.write.result) c.in-Ok.ensures.written
    c.write.ensures.written
