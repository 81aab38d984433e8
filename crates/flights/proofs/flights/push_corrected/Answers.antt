use Rattle.std.proofs.Common.{◌∙◌, ap}
use Rattle.std.proofs.lemmas.Result.{on_ok_weaker}
use Rattle.flights.specs.Numbers.{with_flight}
use Rattle.flights.proofs.NumberLemmas.{with_as_item}
use Rattle.flights.proofs.flights.push_corrected.Goals as goal

pub returns : goal.returns
returns c =
    let list = c.args.list.now.list in
    on_ok_weaker c.put.result (λ e. e ∙ with_as_item c.in_ok-copy.copy list ∙ ap (λ f. with_flight f list) c.in_ok-copy.ensures) c.put.ensures.ok
