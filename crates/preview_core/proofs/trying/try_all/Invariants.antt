use Rattle.std.proofs.Common.{length}
use Rattle.preview_core.proofs.TrialLemmas.{Trying}
use Rattle.preview_core.proofs.trying.try_all.Given as goal

abbrev pub invariant-loop-trial : goal.invariant-loop-trial
invariant-loop-trial l = Trying l.journal.rows l.who l.initial.copy l.trials l.at l.last l.copy l.left

abbrev pub decreases-loop-trial : goal.decreases-loop-trial
decreases-loop-trial l = length l.left
