use Rattle.std.proofs.Common.{ℕ}
use Rattle.preview_core.proofs.TrialLemmas.{one_refused, one_tried}
use Rattle.preview_core.proofs.trying.try_all.Goals as goal

pub loop-trial-preserved : goal.loop-trial-preserved
loop-trial-preserved c =
    one_tried c.args.journal.now.rows c.args.who.now c.args.copy.now c.args.trials.now c.loop-trial.at c.loop-trial.last c.loop-trial.copy c.loop-trial.left.now c.loop-trial.invariant
    c.in-Some.trial.now c.in-Some.later.now c.in-Ok.number c.try_at.new.copy c.in-Some.ensures.cases.0 c.in-Ok.ensures

pub returns-in-Err : goal.returns-in-Err
returns-in-Err c =
    one_refused c.args.journal.now.rows c.args.who.now c.args.copy.now c.args.trials.now c.loop-trial.at c.loop-trial.last c.loop-trial.copy c.loop-trial.left.now c.loop-trial.invariant
    ℕ c.in-Some.trial.now c.in-Some.later.now c.in-Err.why c.try_at.new.copy c.try_at.new.copy c.in-Some.ensures.cases.0 c.in-Err.ensures
