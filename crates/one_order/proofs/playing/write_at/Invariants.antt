use Rattle.std.proofs.Common.{◌≡◌, ◌++◌, drop, take}
use Rattle.one_world.specs.Tapes.{with_writes}
use Rattle.one_order.proofs.playing.write_at.Given as goal

abbrev pub invariant-loop-i : goal.invariant-loop-i
invariant-loop-i l = take l.i l.world ++ with_writes l.name l.writes (drop l.i l.world) ≡ with_writes l.name l.writes l.fn.world
