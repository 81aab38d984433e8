use Rattle.node_run.proofs.SettlingLemmas.{rested_again}
use Rattle.node_run.proofs.settling.settle.Goals as goal

pub returns-in_ok-step_until_idle-2 : goal.returns-in_ok-step_until_idle-2
returns-in_ok-step_until_idle-2 c =
    rested_again c.args.service.now c.step_until_idle.new.service c.step_until_idle-then-is_timely.new.service c.in_ok-step_until_idle.ensures
    (c.is_timely.ensures.yes c.if-is_timely.true) c.in_ok-step_until_idle-2.ensures
