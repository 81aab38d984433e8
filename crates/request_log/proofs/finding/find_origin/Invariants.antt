use Rattle.std.proofs.Common.{None}
use Rattle.lang_lists.specs.Keys.{call_key}
use Rattle.lang_lists.proofs.SearchLemmas.{IsSought}
use Rattle.request_log.specs.Entries.{has_origin}
use Rattle.request_log.specs.Keys.{entry_key}
use Rattle.request_log.proofs.FindLemmas.{last_of}
use Rattle.request_log.proofs.finding.find_origin.Given as goal

abbrev pub invariant-loop-end : goal.invariant-loop-end
invariant-loop-end l = IsSought entry_key (last_of (has_origin l.caller l.number)) (call_key l.caller l.number) None l.entries l.end

abbrev pub decreases-loop-end : goal.decreases-loop-end
decreases-loop-end l = l.end
