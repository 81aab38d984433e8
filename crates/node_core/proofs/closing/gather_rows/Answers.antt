use Rattle.std.proofs.Common.{◌≡◌, ◌+◌, ◌++◌, ◌∷◌, [], ℕ, List, get_or, length, length-append, rules, ap, ◌∙◌, arith}
use Rattle.service_events.specs.State.{Kept}
use Rattle.node_core.specs.Closings.{all_told_since, told_since}
use Rattle.node_core.proofs.WholeLemmas.{told_more}
use Rattle.node_core.proofs.closing.gather_rows.Goals as goal

pub loop-node-preserved : goal.loop-node-preserved
loop-node-preserved g c =
    let since = c.args.since.now in
    let services = c.loop-node.services.items in
    let service = c.in_ok-share.service in
    let place : c.len.result ≡ length services = c.len.ensures ∙ c.loop-node.services.ok.0 in
    let here = ap (λ (n : ℕ). told_since (get_or since n 0) service) place in
    let items : all_told_since c.push.new.self.items since ≡ all_told_since (services ++ service ∷ []) since =
    ap (λ (all : List Kept). all_told_since all since) c.in_ok-push.ensures.items in
    let before = c.loop-node.invariant in
    let nodes = length-append c.loop-node.yielded (c.in-Some.node ∷ []) in
    let all : length c.push.new.self.items ≡ length services + 1 = ap length c.in_ok-push.ensures.items ∙ length-append services (service ∷ []) in
    record {
      parts = omega (arith, c.merge.ensures.parts, before.parts, c.in_ok-share.ensures.part, nodes);
      amount = omega (arith, c.merge.ensures.amount, before.amount, c.in_ok-share.ensures.amount, here, items, told_more services since service);
      len = omega (arith, c.push.new.self.ok.0, all, c.loop-node.services.ok.0, before.len, nodes);
      reach = search rules;
    }
