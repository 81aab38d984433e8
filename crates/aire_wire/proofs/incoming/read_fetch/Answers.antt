use Rattle.std.proofs.Common.{sym, ◌∙◌}
use Rattle.aire_wire.proofs.GoodHeads.{fetch_is_good}
use Rattle.aire_wire.proofs.incoming.read_fetch.Goals as goal

pub fetch_message-requires : goal.fetch_message-requires
fetch_message-requires c = fetch_is_good c.args.me.now c.args.peers.now c.args.request.now (sym c.in-Ok-None.ensures ∙ c.in-Ok-None.field-0-is)
