use Rattle.std.proofs.Common.{◌≡◌, List, map, sym, ap, subst}
use Rattle.place_order.specs.Rising.{IsRising}
use Rattle.versioned_rows.specs.Places.{label_of}
use Rattle.versioned_rows.specs.declared.places.PlaceWrites.{PlaceWrites}
use Rattle.versioned_rows.proofs.FoldLemmas.{rising_left}
use Rattle.versioned_rows.proofs.versions.Versions.fold_first.Goals as goal

pub returns-clause-rising : goal.returns-clause-rising
returns-clause-rising c =
    let order = c.args.order.now.labels in
    let ps = c.self.inside.places.items in
    let same : c.args.self.now.versions ≡ ps = sym (ap (λ v. v.versions) c.self.view_is) in
    let P : List PlaceWrites → Type 0 = λ l. IsRising order (map label_of l) in
    subst P (sym c.fold_places.ensures.places) (rising_left order c.args.n ps (subst P same c.requires.rising))
