use Rattle.node_workers.specs.Desks.{at_desk}
use Rattle.node_run.specs.Repairing.{RepairsOnce}
use Rattle.node_run.proofs.TurnLemmas.{turns_more, turns_none}
use Rattle.node_run.proofs.jobs.RepairsJob.run.Goals as goal

pub loop-turn-init : goal.loop-turn-init
loop-turn-init g c = turns_none (RepairsOnce (at_desk c.args.self.desk.now).me) _

pub loop-turn-preserved : goal.loop-turn-preserved
loop-turn-preserved g c = turns_more (RepairsOnce (at_desk c.args.self.desk.now).me) _ _ _ c.loop-turn.invariant c.repair.ensures.repairs
