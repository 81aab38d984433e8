use Rattle.std.proofs.Common.{◌≡◌, arith, length, map, rules}
use Rattle.service_events.specs.State.{me}
use Rattle.node_core.proofs.NodeLemmas.{all_over, named_over}
use Rattle.node_core.proofs.nodes.node_each.Goals as goal

pub loop-service-preserved : goal.loop-service-preserved
loop-service-preserved g c =
    record {
      parts = search rules;
      none = search rules;
      count = search rules;
      secrets = search rules;
      names = named_over me (map me c.args.services.items) c.loop-service.services.items c.pop.new.self.items c.in-Some.service
          (map (λ n. n.name) c.loop-service.nodes.items) (map (λ n. n.name) c.add_node.new.nodes.items) c.in-Some.ensures.items c.in_ok-add_node.ensures.names
          c.loop-service.invariant.names;
    }

pub returns-clause-names : goal.returns-clause-names
returns-clause-names g c =
    let left = c.loop-service.services in
    let none : length left.items ≡ 0 = omega (arith, c.in_default.ensures.cases.0, left.ok.0) in
    all_over me (λ n. n.name) c.args.services.items left.items c.loop-service.nodes.items c.reverse.new.self.items none c.reverse.ensures.items
    c.loop-service.invariant.names
