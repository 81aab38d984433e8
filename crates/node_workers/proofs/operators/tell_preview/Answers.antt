use Rattle.node_workers.proofs.OperatorLemmas.{preview_said}
use Rattle.node_workers.specs.Desks.{at_desk}
use Rattle.node_workers.proofs.operators.tell_preview.Goals as goal

pub returns-in-Ok-clause-served : goal.returns-in-Ok-clause-served
returns-in-Ok-clause-served g c =
    preview_said (at_desk c.args.desk.now).me c.args.request.now (g.C.Sink.writes c.args.conn.now) (g.C.Sink.writes c.write.new.conn) c.in-Ok.response c.write.result c.in-Ok.ensures
    c.write.ensures.written
