use Rattle.lang_base.proofs.EqualLemmas.{equal_is}
use Rattle.lang_core.specs.contracts.request.Response as response
use Rattle.world_audit.proofs.conditions.same_response.Goals as goal

pub returns : goal.returns
returns c = equal_is response.the_row.coded c.args.left.now c.args.right.now c.is.result c.is.ensures
