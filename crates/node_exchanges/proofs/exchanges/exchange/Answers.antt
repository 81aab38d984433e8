use Rattle.std.proofs.Common.{List, ℕ, subst}
use Rattle.io_links.specs.Exchanges.{Leaves}
use Rattle.node_exchanges.proofs.ExchangeLemmas.{rises}
use Rattle.node_exchanges.proofs.exchanges.exchange.Goals as goal

pub returns-clause-made : goal.returns-clause-made
returns-clause-made g c =
    let had = g.L.Link.exchanges c.args.link.now in
    let have = g.L.Link.exchanges c.exchange-answer.new.self in
    let answer = c.exchange-answer.result in
    record {
      answer = answer;
      left = subst (λ (a : List ℕ). Leaves had have a c.args.bytes answer) c.as_str.ensures
          (subst (λ (b : List ℕ). Leaves had have c.as_str.result.now b answer) c.as_slice.ensures c.exchange-answer.ensures.made);
      rose = λ fails. rises had have answer c.exchange-answer.ensures.failed c.exchange-answer.ensures.counted (c.came_back.ensures.rose fails);
      back = c.came_back.ensures.back;
    }
