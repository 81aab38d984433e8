use Rattle.lang_base.proofs.EqualLemmas.{equal_is}
use Rattle.lang_core.specs.contracts.trace.CallMade as call_made
use Rattle.dump_audit.proofs.strays.is_call_of.Goals as goal

pub returns : goal.returns
returns c = equal_is call_made.the_row.coded c.args.call.now (record { dest = c.args.dest.now; request = c.args.request.now }) c.goes_so.result c.goes_so.ensures
