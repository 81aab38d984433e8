use Rattle.std.proofs.Common.{ℕ, Option, get_or, ap}
use Rattle.std.specs.Option.{option_map_or}
use Rattle.node_core.proofs.closing.since_of.Goals as goal

pub returns-in-None : goal.returns-in-None
returns-in-None c = ap (λ (place : Option ℕ). option_map_or (λ (n : ℕ). get_or c.args.since.now n 0) place 0) c.in-None.ensures.place

pub returns-in-Some : goal.returns-in-Some
returns-in-Some c = ap (λ (place : Option ℕ). option_map_or (λ (n : ℕ). get_or c.args.since.now n 0) place 0) c.in-Some.ensures.place
