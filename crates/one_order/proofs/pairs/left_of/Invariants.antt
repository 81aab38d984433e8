use Rattle.std.proofs.Common.{◌≡◌, ◌++◌, drop, map}
use Rattle.dump_audit.specs.Histories.{histories_of, history_of}
use Rattle.one_order.specs.Logs.{acts_of}
use Rattle.one_order.specs.Roots.{places_left}
use Rattle.one_order.specs.Shown.{place_of}
use Rattle.one_order.proofs.pairs.left_of.Given as goal

abbrev pub invariant-loop-entry : goal.invariant-loop-entry
invariant-loop-entry l =
    map place_of l.places.items ++ places_left (histories_of l.world) (history_of l.log.service.now) (acts_of (drop l.entry-index l.log.left.now))
    ≡ places_left (histories_of l.world) (history_of l.log.service.now) (acts_of l.log.left.now)
