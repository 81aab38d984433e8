use Rattle.std.proofs.Common.{map}
use Rattle.place_order.specs.Rising.{IsRising}
use Rattle.versioned_rows.specs.Places.{label_of}
use Rattle.ground_tests.proofs.drawn.turns.Given as goal

abbrev pub invariant-loop-turn : goal.invariant-loop-turn
invariant-loop-turn l = IsRising l.order.labels (map label_of l.versions.versions)
