use Rattle.node_workers.proofs.ServeLemmas.{operator_told}
use Rattle.node_workers.specs.Desks.{at_desk}
use Rattle.node_workers.proofs.operators.tell.Goals as goal

pub returns-in-Ok-clause-served : goal.returns-in-Ok-clause-served
returns-in-Ok-clause-served g c =
    operator_told (at_desk c.args.desk.now) c.args.inputs c.args.request.now c.reply_or_want.new.pass.notes (g.C.Sink.writes c.args.conn.now) (g.C.Sink.writes c.write.new.conn)
    c.requires.here c.in-Ok.response c.write.result c.in-Ok.ensures.told c.write.ensures.written
