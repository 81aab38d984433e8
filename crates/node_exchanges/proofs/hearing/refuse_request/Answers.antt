use Rattle.std.proofs.Common.{subst, sym}
use Rattle.node_exchanges.proofs.ReplyLemmas.{wire_said}
use Rattle.node_exchanges.specs.Replies.{IsRefusedSo}
use Rattle.node_exchanges.specs.declared.served.Served.{Served}
use Rattle.wire_bytes.specs.declared.hearing.Unheard.TheVariants.{Wire}
use Rattle.node_exchanges.proofs.hearing.refuse_request.Goals as goal

pub returns-clause-served : goal.returns-clause-served
returns-clause-served g c =
    let before = g.C.Sink.writes c.args.conn.now in
    let now = g.C.Sink.writes c.refuse-said.new.conn in
    subst (λ (s : Served). IsRefusedSo (Wire c.args.why) before now s) (sym c.instead.ensures)
    (wire_said c.args.setup.now.setting.me c.args.setup.now.secret c.wire_word.result.now before now c.args.why c.refuse-said.result c.wire_word.ensures.word c.refuse-said.ensures.said)
