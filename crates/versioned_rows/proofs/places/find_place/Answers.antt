use Rattle.std.proofs.Common.{nat_eq, sym, ◌∙◌}
use Rattle.versioned_rows.specs.Places.{label_of}
use Rattle.versioned_rows.proofs.IndexLemmas.{found_at, found_none}
use Rattle.versioned_rows.proofs.places.find_place.Goals as goal

pub returns-in-None : goal.returns-in-None
returns-in-None c =
    sym (found_none (λ p. nat_eq (label_of p) c.args.label) c.args.places.now (sym c.position_in.ensures ∙ c.in-None.is))

pub returns-in-Some : goal.returns-in-Some
returns-in-Some c =
    sym (found_at (λ p. nat_eq (label_of p) c.args.label) c.args.places.now c.in-Some.at c.index-places-at.result (sym c.position_in.ensures ∙ c.in-Some.is) c.index-places-at.is)
