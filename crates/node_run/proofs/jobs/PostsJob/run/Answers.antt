use Rattle.node_workers.specs.Desks.{at_desk}
use Rattle.node_run.specs.Workers.{PostsOrRests}
use Rattle.node_run.proofs.TurnLemmas.{turns_joined, turns_none}
use Rattle.node_run.proofs.jobs.PostsJob.run.Goals as goal

pub loop-turn-init : goal.loop-turn-init
loop-turn-init g c = turns_none (PostsOrRests (at_desk c.args.self.desk.now)) _

pub loop-turn-preserved : goal.loop-turn-preserved
loop-turn-preserved g c = turns_joined (PostsOrRests (at_desk c.args.self.desk.now)) _ _ _ c.loop-turn.invariant c.post.ensures.turns

pub returns-then-is_stopped : goal.returns-then-is_stopped
returns-then-is_stopped g c = record { turns = (_, c.loop-turn.invariant) }
