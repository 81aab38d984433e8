use Rattle.std.proofs.Common.{subst}
use Rattle.io_links.specs.Connections.{GivesNew, IsNew}
use Rattle.node_workers.specs.Desks.{at_desk}
use Rattle.node_run.proofs.TurnLemmas.{came}
use Rattle.node_run.proofs.jobs.serve_next.Goals as goal

pub serve-requires : goal.serve-requires
serve-requires g c = record { new = subst (GivesNew (λ conn. IsNew (g.C.Source.reads conn) (g.C.Sink.writes conn))) c.in-Conn.is c.requires.new }

pub returns-in-Conn : goal.returns-in-Conn
returns-in-Conn g c =
    let new = subst (GivesNew (λ conn. IsNew (g.C.Source.reads conn) (g.C.Sink.writes conn))) c.in-Conn.is c.requires.new in
    record { turn = came (at_desk c.args.desk.now) _ _ _ _ new c.serve.ensures.turn }
