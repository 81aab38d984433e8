use Rattle.lang_base.proofs.EqualLemmas.{equal_is}
use Rattle.lang_core.specs.contracts.request.Response as response
use Rattle.dump_audit.proofs.replays.response_is.Goals as goal

pub returns : goal.returns
returns c = equal_is response.the_row.coded c.args.told.now c.args.given.now c.is.result c.is.ensures
