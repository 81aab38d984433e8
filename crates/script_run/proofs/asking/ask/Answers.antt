use Rattle.std.proofs.Common.{sym, ◌∙◌}
use Rattle.world_events.specs.Events.{answer_to}
use Rattle.world_events.specs.declared.event.Event.TheVariants.{Begin}
use Rattle.script_run.proofs.Following.{asked_all, asked_does, asked_first, asked_hand, heard_ok, on_err, unasked, unasked_does}
use Rattle.script_run.proofs.asking.ask.Goals as goal

pub follow-requires : goal.follow-requires
follow-requires c =
    asked_hand c.args.world.now c.step.new.world c.args.service c.args.request c.in-Ok.happened
    (heard_ok (answer_to c.args.world.now (Begin c.args.service c.args.request)) c.in-Ok.happened (sym c.in-Ok.is ∙ c.in_ok-happened.ensures.heard)) c.in_ok-happened.ensures.after

pub returns-in_err-happened-clause-early : goal.returns-in_err-happened-clause-early
returns-in_err-happened-clause-early c = on_err _ (unasked c.args.world.now c.step.new.world c.args.service c.args.request c.in_err-happened.ensures.early)

pub returns-in_err-follow-in-Ok-clause-early : goal.returns-in_err-follow-in-Ok-clause-early
returns-in_err-follow-in-Ok-clause-early c =
    let is = heard_ok (answer_to c.args.world.now (Begin c.args.service c.args.request)) c.in-Ok.happened (sym c.in-Ok.is ∙ c.in_ok-happened.ensures.heard) in
    on_err _ (asked_first c.args.world.now c.step.new.world c.follow.new.world c.args.service c.args.request c.in-Ok.happened is c.in_ok-happened.ensures.after c.in_ok-happened.ensures.few c.in_err-follow-in-Ok.ensures.early)

pub returns-in_err-text-in-Ok-clause-early : goal.returns-in_err-text-in-Ok-clause-early
returns-in_err-text-in-Ok-clause-early c =
    let is = heard_ok (answer_to c.args.world.now (Begin c.args.service c.args.request)) c.in-Ok.happened (sym c.in-Ok.is ∙ c.in_ok-happened.ensures.heard) in
    on_err _ (asked_all c.args.world.now c.step.new.world c.follow.new.world c.args.service c.args.request c.in-Ok.happened _ is c.in_ok-happened.ensures.after c.in_ok-happened.ensures.few c.in_ok-follow-in-Ok.ensures.run)

pub returns-in_ok-text-in-Ok-clause-does : goal.returns-in_ok-text-in-Ok-clause-does
returns-in_ok-text-in-Ok-clause-does c =
    let is = heard_ok (answer_to c.args.world.now (Begin c.args.service c.args.request)) c.in-Ok.happened (sym c.in-Ok.is ∙ c.in_ok-happened.ensures.heard) in
    rw c.printed.ensures
    (asked_does c.args.world.now c.step.new.world c.follow.new.world c.args.service c.args.request c.in-Ok.happened _ _ is c.in_ok-happened.ensures.after c.in_ok-happened.ensures.few c.in_ok-follow-in-Ok.ensures.run c.in_ok-text-in-Ok.ensures)

pub returns-in-Err-clause-does : goal.returns-in-Err-clause-does
returns-in-Err-clause-does c =
    unasked_does c.args.world.now c.step.new.world c.args.service c.args.request c.in-Err.fault (sym c.in-Err.is ∙ c.in_ok-happened.ensures.heard) c.in_ok-happened.ensures.after c.in_ok-happened.ensures.few
