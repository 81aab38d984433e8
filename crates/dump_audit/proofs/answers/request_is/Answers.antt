use Rattle.lang_base.proofs.EqualLemmas.{equal_is}
use Rattle.lang_core.specs.contracts.request.Request as request
use Rattle.dump_audit.proofs.answers.request_is.Goals as goal

pub returns : goal.returns
returns c = equal_is request.the_row.coded c.args.logged.now c.args.asked.now c.is.result c.is.ensures
