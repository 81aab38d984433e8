use Rattle.std.proofs.Common.{find, ap, ◌∙◌}
use Rattle.wire_fields.specs.Unread.{is_spelled, unread_word}
use Rattle.wire_fields.proofs.unread.UnreadWord.named.Goals as goal

pub returns : goal.returns
unfolding unread_word
returns c = c.copied.ensures ∙ c.spelled.ensures ∙ ap (find (is_spelled c.args.text.now)) c.as_slice.ensures
