use Rattle.std.proofs.Common.{◌≡◌, drop, length}
use Rattle.dump_audit.specs.Histories.{histories_of}
use Rattle.one_order.specs.Logs.{acts_of}
use Rattle.one_world.specs.Checks.{behind_roots}
use Rattle.one_order.proofs.checking.behind_roots.Given as goal

abbrev pub invariant-loop-id : goal.invariant-loop-id
invariant-loop-id l =
    behind_roots (length (histories_of l.world)) (histories_of l.world) l.name (drop l.id-index l.order) (acts_of l.left)
    ≡ behind_roots (length (histories_of l.world)) (histories_of l.world) l.name l.fn.order (acts_of l.fn.left)
