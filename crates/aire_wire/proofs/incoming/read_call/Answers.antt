use Rattle.std.proofs.Common.{sym, ◌∙◌}
use Rattle.aire_wire.proofs.GoodHeads.{call_is_good}
use Rattle.aire_wire.proofs.incoming.read_call.Goals as goal

pub call_message-requires-clause-named : goal.call_message-requires-clause-named
call_message-requires-clause-named c = (call_is_good c.args.me.now c.args.peers.now c.args.request.now (sym c.in-Ok-None.ensures ∙ c.in-Ok-None.field-0-is)).0

pub call_message-requires-clause-chained : goal.call_message-requires-clause-chained
call_message-requires-clause-chained c = (call_is_good c.args.me.now c.args.peers.now c.args.request.now (sym c.in-Ok-None.ensures ∙ c.in-Ok-None.field-0-is)).1
