use Rattle.std.proofs.Common.{sym, subst}
use Rattle.lang_base.specs.Memory.{Unless}
use Rattle.preview_core.specs.Previews.{preview_memory}
use Rattle.preview_core.specs.Trials.{TriesAt}
use Rattle.preview_core.specs.declared.refused.PreviewRefused.{PreviewRefused}
use Rattle.std.proofs.Common.{Err}
use Rattle.preview_core.proofs.TrialLemmas.{refused_trial}
use Rattle.preview_core.proofs.trying.try_at.Goals as goal

pub returns-in-Err : goal.returns-in-Err
returns-in-Err c =
    let R : PreviewRefused → Type 0 = λ x. Unless (preview_memory x) (TriesAt c.args.journal.now.rows c.args.who.now c.args.at c.args.last c.args.copy.now c.args.trial.now (Err x) c.order_as.new.copy) (Unit {0}) in
    subst R (sym c.refused_at.ensures)
    (refused_trial c.args.journal.now.rows c.args.who.now c.args.at c.args.last c.args.copy.now c.order_as.new.copy c.args.trial.now c.in_ok-number.number c.in_ok-number.token
    c.in_ok-number.ensures.free c.in_ok-number.ensures.token c.in-Err.why c.in-Err.ensures)
