use Rattle.lang_values.proofs.CutLemmas.{split_cuts}
use Rattle.lang_values.proofs.parts.cut.Goals as goal

pub returns : goal.returns
returns c = split_cuts c.args.by.now c.args.text.now _ c.split_once.ensures.cases
