use Rattle.std.proofs.Common.{◌≡◌}
use Rattle.node_core.proofs.orders.reserve_at_last.Given as goal

abbrev pub invariant-loop : goal.invariant-loop
invariant-loop g l = l.items.items ≡ l.fn.items.items
