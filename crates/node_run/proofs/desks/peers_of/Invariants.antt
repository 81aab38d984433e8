use Rattle.std.proofs.Common.{◌≡◌, All, take}
use Rattle.node_run.specs.Peers.{door_of, names_of, secret_of, IsToldBy}
use Rattle.node_run.proofs.desks.peers_of.Given as goal

abbrev pub invariant-loop-peer : goal.invariant-loop-peer
invariant-loop-peer l = record {
  doors : names_of l.doors ≡ take l.peer-index l.peers;
  secrets : names_of l.secrets ≡ take l.peer-index l.peers;
  told_doors : All (IsToldBy door_of l.known) l.doors;
  told_secrets : All (IsToldBy secret_of l.known) l.secrets;
}
