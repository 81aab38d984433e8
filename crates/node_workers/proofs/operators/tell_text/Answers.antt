use Rattle.std.proofs.Common.{subst}
use Rattle.http_front.specs.declared.message.WireResponse.{WireResponse}
use Rattle.node_exchanges.specs.Replies.{IsSaid}
use Rattle.node_workers.proofs.operators.tell_text.Goals as goal

pub returns-in-Ok-clause-served : goal.returns-in-Ok-clause-served
returns-in-Ok-clause-served g c =
    subst (λ (response : WireResponse). IsSaid response (g.C.Sink.writes c.args.conn.now) (g.C.Sink.writes c.write.new.conn) c.write.result) c.in-Ok.ensures.reply c.write.ensures.written
