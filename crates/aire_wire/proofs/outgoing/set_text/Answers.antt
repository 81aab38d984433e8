use Rattle.std.proofs.Common.{IsUtf8, subst}
use Rattle.aire_wire.proofs.outgoing.set_text.Goals as goal

pub returns : goal.returns
returns c = subst IsUtf8 c.body_of.ensures c.is_text.ensures
