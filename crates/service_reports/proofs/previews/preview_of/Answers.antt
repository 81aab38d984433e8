use Rattle.std.proofs.Common.{List, subst}
use Rattle.lang_base.specs.Memory.{Unless, lacks}
use Rattle.preview_core.specs.Previews.{IsPreview, IsPreviewAtMost, preview_memory}
use Rattle.preview_core.specs.declared.trial.Trial.{Trial}
use Rattle.service_reports.proofs.previews.preview_of.Goals as goal

pub returns-clause-exact : goal.returns-clause-exact
returns-clause-exact c =
    let P : List Trial → Type 0 = λ trials. Unless (lacks preview_memory c.preview.result) (IsPreview c.args.service.now trials c.args.who.now c.preview.result) Unit in
    subst P c.in_ok-trials.ensures c.preview.ensures.exact

pub returns-clause-within : goal.returns-clause-within
returns-clause-within c =
    let P : List Trial → Type 0 = λ trials. Unless (lacks preview_memory c.preview.result) (IsPreviewAtMost c.args.service.now trials c.args.who.now c.preview.result) Unit in
    subst P c.in_ok-trials.ensures c.preview.ensures.within
