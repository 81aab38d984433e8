use Rattle.std.proofs.Common.{sym, subst, List}
use Rattle.lang_lists.proofs.NumberLemmas.{rises_without}
use Rattle.flights.specs.Numbers.{IsRising}
use Rattle.flights.specs.declared.flight.Flight.{Flight}
use Rattle.flights.proofs.flights.remove_from.Goals as goal

pub returns-clause-rising : goal.returns-clause-rising
returns-clause-rising c =
    let P : List Flight → Type 0 = λ l. IsRising l in
    subst P (sym c.remove.ensures.list) (rises_without (λ (f : Flight). f.id) c.args.id 1 c.args.list.now.list c.requires)
