use Rattle.node_workers.specs.Desks.{at_desk}
use Rattle.node_run.specs.Workers.{ServesNext}
use Rattle.node_run.proofs.TurnLemmas.{turns_more, turns_none}
use Rattle.node_run.proofs.jobs.RequestsJob.run.Goals as goal

pub loop-turn-init : goal.loop-turn-init
loop-turn-init g c = turns_none (ServesNext (at_desk c.args.self.desk.now)) _

pub loop-turn-preserved : goal.loop-turn-preserved
loop-turn-preserved g c = turns_more (ServesNext (at_desk c.args.self.desk.now)) _ _ _ c.loop-turn.invariant c.serve_next-goes_on.ensures.turn

pub returns-then-not-goes_on : goal.returns-then-not-goes_on
returns-then-not-goes_on g c =
    record { turns = (_, turns_more (ServesNext (at_desk c.args.self.desk.now)) _ _ _ c.loop-turn.invariant c.serve_next-goes_on.ensures.turn) }
