use Rattle.std.specs.Coded.{coded_list}
use Rattle.lang_base.proofs.EqualLemmas.{equal_is}
use Rattle.lang_core.specs.contracts.cells.Cell as cell
use Rattle.dump_audit.proofs.replays.rows_are.Goals as goal

pub returns : goal.returns
returns c = equal_is (coded_list cell.the_row.coded) c.args.rows.now c.args.last.now c.is.result c.is.ensures
