use Rattle.std.proofs.Common.{refl, subst, sym}
use Rattle.node_exchanges.proofs.ReplyLemmas.{front_said, front_silent}
use Rattle.node_exchanges.specs.Replies.{IsRefusedSo}
use Rattle.node_exchanges.specs.declared.served.Served.{Served}
use Rattle.wire_bytes.specs.declared.hearing.Unheard.TheVariants.{Front}
use Rattle.node_exchanges.proofs.hearing.refuse_bytes.Goals as goal

pub returns-in-None-clause-served : goal.returns-in-None-clause-served
returns-in-None-clause-served g c =
    let writes = g.C.Sink.writes c.args.conn.now in
    front_silent c.args.why writes writes (sym c.in-None.ensures.word) refl

pub returns-in-Some-clause-served : goal.returns-in-Some-clause-served
returns-in-Some-clause-served g c =
    let before = g.C.Sink.writes c.args.conn.now in
    let now = g.C.Sink.writes c.refuse.new.conn in
    subst (λ (s : Served). IsRefusedSo (Front c.args.why) before now s) (sym c.instead.ensures)
    (front_said c.args.setup.now.setting.me c.args.setup.now.secret c.in-Some.word.now before now c.args.why c.refuse.result (sym c.in-Some.ensures.word) c.refuse.ensures.said)
