use Rattle.std.proofs.Common.{sym, ◌∙◌}
use Rattle.aire_wire.proofs.GoodHeads.{token_is_good}
use Rattle.aire_wire.proofs.incoming.read_token.Goals as goal

pub token_message-requires : goal.token_message-requires
token_message-requires c = token_is_good c.args.me.now c.args.peers.now c.args.request.now (sym c.in-Ok-None.ensures ∙ c.in-Ok-None.field-0-is)
