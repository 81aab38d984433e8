use Rattle.std.proofs.Common.{subst, sym}
use Rattle.wire_bytes.specs.declared.hearing.Unheard.{Unheard}
use Rattle.node_exchanges.specs.Replies.{IsRefusedSo}
use Rattle.node_exchanges.proofs.hearing.refuse_unheard.Goals as goal

pub returns-in-Front-clause-served : goal.returns-in-Front-clause-served
returns-in-Front-clause-served g c =
    subst (λ (why : Unheard). IsRefusedSo why (g.C.Sink.writes c.args.conn.now) (g.C.Sink.writes c.refuse_bytes.new.conn) c.refuse_bytes.result) (sym c.in-Front.is)
    c.refuse_bytes.ensures.served

pub returns-in-Wire-clause-served : goal.returns-in-Wire-clause-served
returns-in-Wire-clause-served g c =
    subst (λ (why : Unheard). IsRefusedSo why (g.C.Sink.writes c.args.conn.now) (g.C.Sink.writes c.refuse_request.new.conn) c.refuse_request.result) (sym c.in-Wire.is)
    c.refuse_request.ensures.served
