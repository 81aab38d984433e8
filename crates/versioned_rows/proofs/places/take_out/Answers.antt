use Rattle.std.proofs.Common.{◌≡◌, position, Some, nat_eq, sym, ap, ◌∙◌}
use Rattle.std.specs.List.{remove}
use Rattle.versioned_rows.specs.Places.{label_of}
use Rattle.key_labels.proofs.ApartLemmas.{position_is, removed, not_there}
use Rattle.versioned_rows.proofs.IndexLemmas.{take_indexed}
use Rattle.versioned_rows.proofs.places.take_out.Goals as goal

pub returns-in-Some-clause-places : goal.returns-in-Some-clause-places
returns-in-Some-clause-places c =
    let ps = c.args.places.now.items in
    let found : position (λ p. nat_eq (label_of p) c.args.label) ps ≡ Some c.in-Some.at = sym c.requires.stands ∙ c.in-Some.is in
    c.remove-place.ensures.items ∙ ap (remove ps) (position_is (λ p. nat_eq (label_of p) c.args.label) ps c.in-Some.at found).0 ∙ removed label_of c.args.label ps c.requires.indexed.apart

pub returns-in-Some-clause-indexed : goal.returns-in-Some-clause-indexed
returns-in-Some-clause-indexed c =
    let ps = c.args.places.now.items in
    let found : position (λ p. nat_eq (label_of p) c.args.label) ps ≡ Some c.in-Some.at = sym c.requires.stands ∙ c.in-Some.is in
    let same = c.remove-place.ensures.items ∙ ap (remove ps) (position_is (λ p. nat_eq (label_of p) c.args.label) ps c.in-Some.at found).0 ∙ removed label_of c.args.label ps c.requires.indexed.apart in
    rw same (take_indexed c.args.label c.in-Some.at c.remove-place.result ps c.args.rows.now.items c.drop_labels.new.rows.items c.requires.indexed found c.remove-place.ensures.value c.drop_labels.ensures.ordered
    (rw c.as_slice.ensures.items at c.drop_labels.ensures.each))

pub returns-in-None-clause-places : goal.returns-in-None-clause-places
returns-in-None-clause-places c =
    not_there label_of c.args.label c.args.places.now.items (sym c.requires.stands ∙ c.in-None.is)
