use Rattle.std.proofs.Common.{◌-◌, ◌^◌}
use Rattle.preview_core.proofs.TrialLemmas.{AreTaken}
use Rattle.preview_core.proofs.trying.next_token.Given as goal

abbrev pub invariant-loop-number : goal.invariant-loop-number
invariant-loop-number l = AreTaken l.journal.rows l.last l.number

abbrev pub decreases-loop-number : goal.decreases-loop-number
decreases-loop-number l = 2 ^ 64 - l.number
