use Rattle.std.specs.List.{Contains}
use Rattle.ground_tests.proofs.labels.grow.Given as goal

abbrev pub invariant-loop-turn : goal.invariant-loop-turn
invariant-loop-turn l = record { first : Contains l.order.labels l.first; last : Contains l.order.labels l.last }
