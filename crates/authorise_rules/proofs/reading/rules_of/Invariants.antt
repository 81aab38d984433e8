use Rattle.std.proofs.Common.{◌≡◌, ◌+◌, [], drop, map}
use Rattle.authorise_rules.specs.Reading.{with_lines}
use Rattle.authorise_rules.proofs.reading.rules_of.Given as goal

abbrev pub invariant-loop-i : goal.invariant-loop-i
invariant-loop-i l = with_lines l.rules (l.i + 1) (map (λ x. x.now) (drop l.i l.lines)) ≡ with_lines [] 1 (map (λ x. x.now) l.lines)
