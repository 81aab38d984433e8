use Rattle.std.proofs.Common.{◌≡◌, ◌∙◌, ap}
use Rattle.flights.specs.Numbers.{KeptFlights, free_from}
use Rattle.flights.proofs.NumberLemmas.{least_is}
use Rattle.flights.proofs.flights.Flights.free_number.Goals as goal

pub returns-clause-least : goal.returns-clause-least
returns-clause-least c =
    let is : c.self.inside.list.list ≡ c.args.self.now.list = ap (λ (k : KeptFlights). k.list) c.self.view_is in
    let e : c.free_number.result ≡ free_from 1 c.args.self.now.list =
    c.free_number.ensures ∙ ap (free_from 1) (c.as_slice.ensures ∙ is) in
    least_is c.free_number.result c.self.inside.list.list c.args.self.now.list e is c.self.invariant
