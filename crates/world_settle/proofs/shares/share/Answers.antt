use Rattle.world_settle.proofs.EventLemmas.{on_err}
use Rattle.world_settle.proofs.Parts.{share_does, share_posts, share_steps}
use Rattle.world_settle.proofs.shares.share.Goals as goal

pub returns-in_err-step_until_idle-clause-early : goal.returns-in_err-step_until_idle-clause-early
returns-in_err-step_until_idle-clause-early c = on_err _ (share_steps c.args.names.now c.args.name.now c.args.world.now c.step_until_idle.new.world c.in_err-step_until_idle.ensures.early)

pub returns-in_err-post_to_others-clause-early : goal.returns-in_err-post_to_others-clause-early
returns-in_err-post_to_others-clause-early c =
    on_err _ (share_posts c.args.names.now c.args.name.now c.args.world.now c.step_until_idle.new.world c.post_to_others.new.world c.args.tally.now c.step_until_idle.new.tally
    c.in_ok-step_until_idle.ensures.does c.in_err-post_to_others.ensures.early)

pub returns-clause-does : goal.returns-clause-does
returns-clause-does c =
    share_does c.args.names.now c.args.name.now c.args.world.now c.step_until_idle.new.world c.post_to_others.new.world c.args.tally.now c.step_until_idle.new.tally c.post_to_others.new.tally
    c.in_ok-step_until_idle.ensures.does c.in_ok-post_to_others.ensures.does
