use Rattle.std.proofs.Common.{None}
use Rattle.lang_lists.specs.Keys.{call_key}
use Rattle.lang_lists.proofs.SearchLemmas.{IsSought}
use Rattle.request_log.specs.Folded.{has_caller}
use Rattle.request_log.specs.Keys.{folded_key}
use Rattle.request_log.proofs.FindLemmas.{last_of}
use Rattle.request_log.proofs.folded.find_origin.Given as goal

abbrev pub invariant-loop-end : goal.invariant-loop-end
invariant-loop-end l = IsSought folded_key (last_of (has_caller l.caller l.number)) (call_key l.caller l.number) None l.items l.end

abbrev pub decreases-loop-end : goal.decreases-loop-end
decreases-loop-end l = l.end
