use Rattle.std.proofs.Common.{◌≡◌, drop}
use Rattle.one_world.specs.Tapes.{rows_at}
use Rattle.one_order.proofs.playing.rows_at.Given as goal

abbrev pub invariant-loop-played : goal.invariant-loop-played
invariant-loop-played l = rows_at l.name (drop l.played-index l.world) ≡ rows_at l.name l.fn.world
