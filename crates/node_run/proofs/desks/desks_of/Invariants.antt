use Rattle.std.proofs.Common.{◌≡◌, All, map, take, vec_len}
use Rattle.node_run.specs.Peers.{node_at, setup_at, KnowsPeers}
use Rattle.node_run.proofs.desks.desks_of.Given as goal

abbrev pub invariant-loop-place : goal.invariant-loop-place
invariant-loop-place g l = record {
  len : vec_len l.desks ≡ l.place;
  nodes : map node_at l.desks.items ≡ take l.place l.nodes.nodes.items;
  setups : map setup_at l.desks.items ≡ take l.place l.here;
  peers : All (KnowsPeers l.known) l.desks.items;
}
