use Rattle.std.proofs.Common.{◌≡◌, ◌+◌, ◌++◌, map, reverse, vec_len}
use Rattle.service_events.specs.State.{me}
use Rattle.node_core.proofs.nodes.node_each.Given as goal

abbrev pub invariant-loop-service : goal.invariant-loop-service
invariant-loop-service g l = record {
  parts : l.rest.parts ≡ vec_len l.services;
  none : l.rest.amount ≡ 0;
  count : vec_len l.nodes + vec_len l.services ≡ vec_len l.fn.services;
  secrets : vec_len l.secrets ≡ vec_len l.services;
  names : map me l.fn.services.items ≡ map me l.services.items ++ reverse (map (λ n. n.name) l.nodes.items);
}

abbrev pub decreases-loop-service : goal.decreases-loop-service
decreases-loop-service g l = vec_len l.services
