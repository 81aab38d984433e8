use Rattle.lang_base.proofs.EqualLemmas.{equal_is}
use Rattle.place_order.specs.Rooms.{call_code}
use Rattle.place_order.proofs.room.passes.Goals as goal

pub returns : goal.returns
returns c = equal_is call_code c.args.call c.args.made c.is_call.result c.is_call.ensures
