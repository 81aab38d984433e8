use Rattle.std.proofs.Common.{◌≡◌, ◌∙◌, List, map, sym, ap, subst}
use Rattle.place_order.specs.Rising.{IsRising}
use Rattle.key_labels.specs.Labels.{is_other}
use Rattle.versioned_rows.specs.Places.{label_of}
use Rattle.versioned_rows.specs.declared.places.PlaceWrites.{PlaceWrites}
use Rattle.key_labels.proofs.RisingLemmas.{rising_kept}
use Rattle.versioned_rows.proofs.BaseLemmas.{same_base}
use Rattle.versioned_rows.proofs.versions.Versions.take_back.Goals as goal

pub returns-clause-rising : goal.returns-clause-rising
returns-clause-rising c = λ order rising.
    let ps = c.self.inside.places.items in
    let same : c.args.self.now.versions ≡ ps = sym (ap (λ v. v.versions) c.self.view_is) in
    let P : List PlaceWrites → Type 0 = λ l. IsRising order (map label_of l) in
    subst P (sym c.take_out.ensures.places) (rising_kept label_of order (λ p. is_other c.args.label (label_of p)) ps (subst P same rising))

pub returns-clause-base : goal.returns-clause-base
returns-clause-base c =
    same_base c.self.inside.rows.items c.take_out.new.rows.items c.self.invariant.0.ordered c.take_out.ensures.indexed.ordered c.take_out.ensures.rows.bases ∙ ap (λ v. v.base) c.self.view_is
