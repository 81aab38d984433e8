use Rattle.std.specs.Coded.{coded_list}
use Rattle.lang_base.proofs.EqualLemmas.{equal_is}
use Rattle.lang_core.specs.contracts.trace.CallMade as call_made
use Rattle.dump_audit.proofs.replays.calls_are.Goals as goal

pub returns : goal.returns
returns c = equal_is (coded_list call_made.the_row.coded) c.args.entry.now.calls c.args.trace.now.calls c.is.result c.is.ensures
