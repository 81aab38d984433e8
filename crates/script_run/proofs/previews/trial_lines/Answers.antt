use Rattle.script_run.proofs.PreviewLemmas.{shown_prints}
use Rattle.script_run.proofs.previews.trial_lines.Goals as goal

pub returns : goal.returns
returns c =
    shown_prints c.args.trial c.args.who.now c.args.service.now c.in_ok-shown.shown c.preview_text.result c.in_ok-shown.ensures.within c.preview_text.ensures
