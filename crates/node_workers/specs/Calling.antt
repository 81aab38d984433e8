-- What a worker counts of the calls that it makes to peers for a live request.
use Rattle.std.specs.Prelude.{ℕ, ◌≤◌, ◌<◌, ◌+◌}
use Rattle.io_edge.specs.Edge.{Rose}
use Rattle.io_links.specs.Exchanges.{Exchanges}
use Rattle.node_core.specs.declared.notes.Notes.{Notes}
use Rattle.node_exchanges.specs.Calls.{CallsMade}
use Rattle.node_exchanges.specs.Endpoints.{Endpoint}

-- What a worker counts as lost and as refused rests on exchanges: each of them was a call of its service to a peer. As lost it counted no more
-- calls than had exchanges that failed, and none unless the link's count of faults rose; as refused no more than had replies that are no
-- answers of version 1 to them.
pub record CountsCalls (e : Endpoint) (before now : Notes) (had have : Exchanges) : Type 0 where
  pub lost : ℕ
  pub refused : ℕ
  pub lost_at_most : now.lost ≤ before.lost + lost
  pub refused_at_most : now.refused ≤ before.refused + refused
  pub calls : CallsMade e lost refused had have
  pub rose : before.lost < now.lost → Rose had.faults have.faults
  pub counted : had.faults ≤ have.faults
