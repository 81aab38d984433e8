use Rattle.std.proofs.Common.{◌≡◌, Some, [], ◌∷◌, ap, sym, refl, ◌∙◌}
use Rattle.script_run.specs.Told.{line_of}
use Rattle.script_run.proofs.Following.{does_all_first, does_none, does_not, does_one, done_one, on_err, one_first}
use Rattle.script_run.proofs.telling.happen.Goals as goal

pub returns-in_err-detail-clause-early : goal.returns-in_err-detail-clause-early
returns-in_err-detail-clause-early c = on_err _ (one_first c.args.world.now c.args.event)

pub returns-in_err-happened-clause-early : goal.returns-in_err-happened-clause-early
returns-in_err-happened-clause-early c =
    on_err _ (does_none c.args.world.now c.step.new.world (λ events. events ≡ c.args.event ∷ []) (c.args.event ∷ []) refl c.in_err-happened.ensures.early)

pub returns-in_err-text-in-Ok-clause-early : goal.returns-in_err-text-in-Ok-clause-early
returns-in_err-text-in-Ok-clause-early c =
    on_err _ (does_all_first c.args.world.now c.step.new.world (λ events. events ≡ c.args.event ∷ []) (c.args.event ∷ []) refl
    (done_one c.args.world.now c.step.new.world c.args.event c.in_ok-happened.ensures.after c.in_ok-happened.ensures.few))

pub returns-in-Ok-clause-does : goal.returns-in-Ok-clause-does
returns-in-Ok-clause-does c =
    rw (c.event_counts-counts.ensures, c.is_cancel-cancels.ensures)
    (does_one c.args.world.now c.step.new.world c.args.event c.in-Ok.happened _ (sym c.in-Ok.is ∙ c.in_ok-happened.ensures.heard)
    c.in_ok-happened.ensures.after c.in_ok-happened.ensures.few
    (c.in_ok-text-in-Ok.ensures ∙ ap (λ x. line_of c.step.new.world (Some (x, c.in-Ok.happened))) c.in_ok-detail.ensures))

pub returns-clause-does : goal.returns-clause-does
returns-clause-does c =
    does_not c.args.world.now c.step.new.world c.args.event c.in-Err.fault (sym c.in-Err.is ∙ c.in_ok-happened.ensures.heard)
    c.in_ok-happened.ensures.after c.in_ok-happened.ensures.few
