use Rattle.node_workers.specs.Desks.{at_desk}
use Rattle.node_run.specs.Turns.{Turns}
use Rattle.node_run.specs.Workers.{standing, ServesNext}
use Rattle.node_run.proofs.jobs.RequestsJob.run.Given as goal

abbrev pub invariant-loop-turn : goal.invariant-loop-turn
invariant-loop-turn g l =
    Turns (ServesNext (at_desk l.desk))
    (standing l.initial.pass.notes l.initial.pass.receipts.items (g.L.Link.exchanges l.initial.link))
    (standing l.pass.notes l.pass.receipts.items (g.L.Link.exchanges l.link))
