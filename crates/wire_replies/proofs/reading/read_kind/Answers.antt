use Rattle.std.proofs.Common.{sym, ◌∙◌}
use Rattle.wire_replies.proofs.GoodHeads.{reply_is_good}
use Rattle.wire_replies.proofs.reading.read_kind.Goals as goal

pub reply_in-requires : goal.reply_in-requires
reply_in-requires c = reply_is_good _ _ c.args.secret.now c.args.kind c.args.response.now (sym c.in-Ok-None.ensures ∙ c.in-Ok-None.field-0-is)
