use Rattle.std.proofs.Common.{ℕ, ◌<◌}
use Rattle.std.specs.List.{HoldsAt}
use Rattle.local_repair.specs.Held.{IsAnswered}
use Rattle.local_repair.proofs.current.place_of_changed.Given as goal

abbrev pub invariant-loop-place : goal.invariant-loop-place
invariant-loop-place g l = (q : ℕ) → q < l.place → HoldsAt (IsAnswered (g.S.Slots.consumed_of l.slots)) l.entries q
