use Rattle.std.proofs.Common.{sym, ◌∙◌}
use Rattle.aire_wire.proofs.GoodHeads.{set_is_good}
use Rattle.aire_wire.proofs.incoming.read_set.Goals as goal

pub set_message-requires-clause-named : goal.set_message-requires-clause-named
set_message-requires-clause-named c = (set_is_good c.args.me.now c.args.peers.now c.args.request.now (sym c.in-Ok-None.ensures ∙ c.in-Ok-None.field-0-is)).0

pub set_message-requires-clause-chained : goal.set_message-requires-clause-chained
set_message-requires-clause-chained c = (set_is_good c.args.me.now c.args.peers.now c.args.request.now (sym c.in-Ok-None.ensures ∙ c.in-Ok-None.field-0-is)).1
