use Rattle.node_run.proofs.TurnLemmas.{stepped_once}
use Rattle.node_run.proofs.jobs.step_under_lock.Goals as goal

pub returns : goal.returns
returns g c =
    record {
      steps = stepped_once _ _ c.args.kept.now.service c.event.new.kept.service c.args.pass.now.notes c.event.new.pass.notes c.event.result c.event.ensures.notes c.event.ensures.pass_err;
    }
