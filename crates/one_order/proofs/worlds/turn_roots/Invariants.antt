use Rattle.std.proofs.Common.{◌≡◌, drop, length}
use Rattle.dump_audit.specs.Histories.{histories_of}
use Rattle.one_world.specs.Turns.{turn_roots}
use Rattle.one_order.proofs.worlds.turn_roots.Given as goal

abbrev pub invariant-loop-id : goal.invariant-loop-id
invariant-loop-id l =
    turn_roots (length (histories_of l.services)) (histories_of l.services) (drop l.id-index l.order) l.world
    ≡ turn_roots (length (histories_of l.services)) (histories_of l.services) l.fn.order l.fn.world
