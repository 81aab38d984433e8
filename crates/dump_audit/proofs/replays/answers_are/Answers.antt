use Rattle.std.specs.Coded.{coded_list}
use Rattle.lang_base.proofs.EqualLemmas.{equal_is}
use Rattle.lang_core.specs.contracts.request.Response as response
use Rattle.dump_audit.proofs.replays.answers_are.Goals as goal

pub returns : goal.returns
returns c = equal_is (coded_list response.the_row.coded) c.args.entry.now.answers c.args.trace.now.answers c.is.result c.is.ensures
