use Rattle.std.specs.List.{All, Contains}
use Rattle.ground_tests.proofs.drawn.labels_of.Given as goal

abbrev pub invariant-loop-turn : goal.invariant-loop-turn
invariant-loop-turn l = All (Contains l.order.labels) l.labels.items
