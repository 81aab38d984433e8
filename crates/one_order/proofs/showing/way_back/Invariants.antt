use Rattle.dump_audit.specs.Histories.{histories_of}
use Rattle.one_order.specs.Cycles.{IsWay}
use Rattle.one_order.specs.Shown.{name_at}
use Rattle.one_order.proofs.showing.way_back.Given as goal

abbrev pub invariant-loop-link : goal.invariant-loop-link
invariant-loop-link l = IsWay (histories_of l.world) (name_at l.from) (name_at l.last) l.ids
