use Rattle.std.proofs.Common.{◌≡◌, map, take, vec_len}
use Rattle.node_run.specs.Peers.{secret_of}
use Rattle.node_run.proofs.run.secrets_of.Given as goal

abbrev pub invariant-loop-setup : goal.invariant-loop-setup
invariant-loop-setup l = record {
  len : vec_len l.secrets ≡ l.setup-index;
  secrets : l.secrets.items ≡ map secret_of (take l.setup-index l.here);
}
