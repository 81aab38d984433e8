use Rattle.std.proofs.Common.{◌≡◌, drop}
use Rattle.dump_audit.specs.Histories.{histories_of}
use Rattle.one_order.specs.Cycles.{along}
use Rattle.one_order.specs.Shown.{place_of}
use Rattle.one_order.proofs.showing.along.Given as goal

abbrev pub invariant-loop-slot : goal.invariant-loop-slot
invariant-loop-slot l = along (histories_of l.world) (drop l.slot-index l.slots) (place_of l.at) ≡ along (histories_of l.world) l.fn.slots (place_of l.fn.from)
