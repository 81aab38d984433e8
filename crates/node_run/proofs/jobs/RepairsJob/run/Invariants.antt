use Rattle.node_workers.specs.Desks.{at_desk}
use Rattle.node_run.specs.Repairing.{RepairsAlone}
use Rattle.node_run.proofs.jobs.RepairsJob.run.Given as goal

abbrev pub invariant-loop-turn : goal.invariant-loop-turn
invariant-loop-turn g l = RepairsAlone (at_desk l.desk).me l.initial.pass.notes l.pass.notes
