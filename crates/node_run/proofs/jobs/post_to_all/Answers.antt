use Rattle.node_workers.specs.Desks.{at_desk}
use Rattle.node_run.specs.Workers.{PostsOrRests}
use Rattle.node_run.proofs.TurnLemmas.{turns_more, turns_none}
use Rattle.node_run.proofs.jobs.post_to_all.Goals as goal

pub loop-peer-init : goal.loop-peer-init
loop-peer-init g c = turns_none (PostsOrRests (at_desk c.args.desk.now)) _

pub loop-peer-preserved : goal.loop-peer-preserved
loop-peer-preserved g c = turns_more (PostsOrRests (at_desk c.args.desk.now)) _ _ _ c.loop-peer.invariant c.post_to.ensures.turn
