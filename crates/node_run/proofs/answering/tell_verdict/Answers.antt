use Rattle.node_run.proofs.LookingLemmas.{verdict_told}
use Rattle.node_run.proofs.answering.tell_verdict.Goals as goal

pub returns-in-Ok : goal.returns-in-Ok
returns-in-Ok g c =
    verdict_told c.args.shared.now.here.now (g.C.Sink.writes c.args.conn.now) (g.C.Sink.writes c.tell_text.new.conn) c.in-Ok.line c.tell_text.result c.in-Ok.ensures
    c.tell_text.ensures.served
