use Rattle.lang_base.proofs.EqualLemmas.{equal_is}
use Rattle.lang_core.specs.contracts.writes.Write as write
use Rattle.log_index.proofs.behind.same_write.Goals as goal

pub returns : goal.returns
returns c = equal_is write.the_row.coded c.args.left.now c.args.right.now c.is.result c.is.ensures
