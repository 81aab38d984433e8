use Rattle.std.proofs.Common.{◌≡◌, map, take}
use Rattle.node_core.specs.Closings.{row_count}
use Rattle.node_core.proofs.nodes.opened_at.Given as goal

abbrev pub invariant-loop-service : goal.invariant-loop-service
invariant-loop-service l = l.since.items ≡ map row_count (take l.service-index l.services)
