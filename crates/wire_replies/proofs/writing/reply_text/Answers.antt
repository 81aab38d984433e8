use Rattle.std.proofs.Common.{IsUtf8, subst}
use Rattle.wire_replies.proofs.writing.reply_text.Goals as goal

pub returns : goal.returns
returns c = subst IsUtf8 c.reply_body.ensures c.is_text.ensures
