use Rattle.lang_base.proofs.EqualLemmas.{equal_is}
use Rattle.lang_core.specs.contracts.trace.CallMade as call_made
use Rattle.service_repairs.proofs.settling.same_call.Goals as goal

pub returns : goal.returns
returns c = equal_is call_made.the_row.coded c.args.left.now c.args.right.now c.is.result c.is.ensures
