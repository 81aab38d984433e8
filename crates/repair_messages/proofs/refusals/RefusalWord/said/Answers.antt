use Rattle.std.proofs.Common.{find, ap, ◌∙◌}
use Rattle.repair_messages.specs.Refusals.{is_spelled, word_said}
use Rattle.repair_messages.proofs.refusals.RefusalWord.said.Goals as goal

pub returns : goal.returns
unfolding word_said
returns c = c.copied.ensures ∙ c.spelled.ensures ∙ ap (find (is_spelled c.args.text.now)) c.as_slice.ensures
