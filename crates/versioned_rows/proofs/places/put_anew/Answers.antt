use Rattle.std.proofs.Common.{◌≡◌, ◌∙◌, List, true, sym, ap, subst}
use Rattle.std.specs.List.{AllByRecursion}
use Rattle.key_labels.specs.Labels.{is_other}
use Rattle.versioned_rows.specs.Places.{label_of, with_place}
use Rattle.versioned_rows.specs.declared.places.PlaceWrites.{PlaceWrites}
use Rattle.versioned_rows.proofs.GetLemmas.{all_pass}
use Rattle.key_labels.proofs.ApartLemmas.{not_there}
use Rattle.versioned_rows.proofs.places.put_anew.Goals as goal

pub put_in-requires-clause-others : goal.put_in-requires-clause-others
put_in-requires-clause-others c =
    let ps = c.args.places.now.items in
    let P : List PlaceWrites → Type 0 = λ l. AllByRecursion (λ p. is_other c.args.place.label (label_of p) ≡ true) l in
    subst P (sym (not_there label_of c.args.place.label ps (sym c.requires.stands ∙ c.in-None.is))) (all_pass (λ p. is_other c.args.place.label (label_of p)) ps)

pub returns-in-None-clause-places : goal.returns-in-None-clause-places
returns-in-None-clause-places c =
    let ps = c.args.places.now.items in
    c.put_in.ensures.places ∙ ap (with_place c.args.order.now.labels c.args.place) (not_there label_of c.args.place.label ps (sym c.requires.stands ∙ c.in-None.is))
