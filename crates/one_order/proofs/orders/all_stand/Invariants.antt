use Rattle.std.proofs.Common.{◌≡◌, drop}
use Rattle.std.specs.List.{list_all}
use Rattle.dump_audit.specs.Histories.{histories_of}
use Rattle.one_world.specs.Checks.{stands_in}
use Rattle.one_order.proofs.orders.all_stand.Given as goal

abbrev pub invariant-loop-service : goal.invariant-loop-service
invariant-loop-service l =
    list_all (stands_in (histories_of l.world) l.order) (histories_of (drop l.service-index l.part)) ≡ list_all (stands_in (histories_of l.world) l.order) (histories_of l.fn.part)
