use Rattle.std.proofs.Common.{◌≡◌, ◌++◌, drop}
use Rattle.one_order.proofs.worlds.told.Given as goal

abbrev pub invariant-loop-played : goal.invariant-loop-played
invariant-loop-played l = l.told.items ++ drop l.played-index l.world ≡ l.fn.world
