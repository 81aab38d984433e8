use Rattle.std.proofs.Common.{◌≡◌, ◌+◌, drop}
use Rattle.authorise_rules.specs.Deciding.{decision_from, question}
use Rattle.authorise_rules.proofs.deciding.decision_in.Given as goal

abbrev pub invariant-loop-i : goal.invariant-loop-i
invariant-loop-i l = decision_from (l.i + 1) (drop l.i l.rules) (question l.asked) ≡ decision_from 1 l.rules (question l.asked)
