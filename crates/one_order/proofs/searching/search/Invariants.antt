use Rattle.std.proofs.Common.{map}
use Rattle.dump_audit.specs.Histories.{histories_of}
use Rattle.one_order.specs.Logs.{log_of}
use Rattle.one_order.proofs.SearchLaws.{Searched, still_left}
use Rattle.one_order.proofs.searching.search.Given as goal

abbrev pub invariant-loop-more : goal.invariant-loop-more
invariant-loop-more l = Searched (histories_of l.services) l.more l.found.order (map log_of l.found.logs.items)

abbrev pub decreases-loop-more : goal.decreases-loop-more
decreases-loop-more l = still_left l.more (map log_of l.found.logs.items)
