use Rattle.std.proofs.Common.{map, ◌≡◌, ◌∷◌, ◌++◌, take, drop, Some, filter, ℕ, List, sym, ap, ◌∙◌, subst}
use Rattle.place_order.specs.Rising.{IsRising, is_before}
use Rattle.versioned_rows.specs.Places.{label_of, is_written}
use Rattle.versioned_rows.specs.Places.{with_place}
use Rattle.key_labels.proofs.RisingLemmas.{filter_rest, rising_kept}
use Rattle.key_labels.proofs.EditLemmas.{ok_is}
use Rattle.versioned_rows.proofs.IndexLemmas.{put_indexed}
use Rattle.versioned_rows.proofs.PutLemmas.{rising_put}
use Rattle.versioned_rows.specs.declared.places.PlaceWrites.{PlaceWrites}
use Rattle.versioned_rows.proofs.places.put_in.Goals as goal

pub put_labels-requires-clause-rising : goal.put_labels-requires-clause-rising
put_labels-requires-clause-rising c = λ t k.
    let P : List ℕ → Type 0 = λ l. IsRising c.args.order.now.labels l in
    subst P (sym (c.requires.indexed.each t k)) (rising_kept label_of c.args.order.now.labels (λ p. is_written t k p.writes) c.args.places.now.items c.requires.rising)

pub returns-clause-places : goal.returns-clause-places
returns-clause-places c =
    let ps = c.args.places.now.items in
    let qs = c.deref.result.now in
    let n = c.count_before-at.result in
    let order = c.args.order.now.labels in
    let place = c.args.place in
    let put : c.insert.new.self.items ≡ take n ps ++ place ∷ drop n ps = ok_is c.insert.result _ _ _ (c.insert.ensures.succeeds c.requires.room) c.insert.ensures.items in
    let rest = filter_rest (λ q. is_before order (Some (label_of place)) (label_of q)) qs n c.count_before-at.ensures.within c.count_before-at.ensures.front c.count_before-at.ensures.rest in
    put ∙ ap (λ l. take n l ++ place ∷ drop n l) (sym c.deref.ensures.value)
    ∙ ap (λ l. l ++ place ∷ drop n qs) (sym c.count_before-at.ensures.count)
    ∙ ap (λ l. filter (λ q. is_before order (Some (label_of place)) (label_of q)) qs ++ place ∷ l) (sym rest)
    ∙ ap (with_place order place) c.deref.ensures.value

pub returns-clause-rising : goal.returns-clause-rising
returns-clause-rising c =
    let ps = c.args.places.now.items in
    let qs = c.deref.result.now in
    let n = c.count_before-at.result in
    let order = c.args.order.now.labels in
    let place = c.args.place in
    let put : c.insert.new.self.items ≡ take n ps ++ place ∷ drop n ps = ok_is c.insert.result _ _ _ (c.insert.ensures.succeeds c.requires.room) c.insert.ensures.items in
    let rest = filter_rest (λ q. is_before order (Some (label_of place)) (label_of q)) qs n c.count_before-at.ensures.within c.count_before-at.ensures.front c.count_before-at.ensures.rest in
    let same : c.insert.new.self.items ≡ with_place order place ps =
    put ∙ ap (λ l. take n l ++ place ∷ drop n l) (sym c.deref.ensures.value)
    ∙ ap (λ l. l ++ place ∷ drop n qs) (sym c.count_before-at.ensures.count)
    ∙ ap (λ l. filter (λ q. is_before order (Some (label_of place)) (label_of q)) qs ++ place ∷ l) (sym rest)
    ∙ ap (with_place order place) c.deref.ensures.value in
    let P : List PlaceWrites → Type 0 = λ l. IsRising order (map label_of l) in
    subst P (sym same) (rising_put order place c.requires.label ps c.requires.rising c.requires.others)

pub returns-clause-indexed : goal.returns-clause-indexed
returns-clause-indexed c =
    let ps = c.args.places.now.items in
    let qs = c.deref.result.now in
    let n = c.count_before-at.result in
    let order = c.args.order.now.labels in
    let place = c.args.place in
    let put : c.insert.new.self.items ≡ take n ps ++ place ∷ drop n ps = ok_is c.insert.result _ _ _ (c.insert.ensures.succeeds c.requires.room) c.insert.ensures.items in
    let rest = filter_rest (λ q. is_before order (Some (label_of place)) (label_of q)) qs n c.count_before-at.ensures.within c.count_before-at.ensures.front c.count_before-at.ensures.rest in
    let same : c.insert.new.self.items ≡ with_place order place ps =
    put ∙ ap (λ l. take n l ++ place ∷ drop n l) (sym c.deref.ensures.value)
    ∙ ap (λ l. l ++ place ∷ drop n qs) (sym c.count_before-at.ensures.count)
    ∙ ap (λ l. filter (λ q. is_before order (Some (label_of place)) (label_of q)) qs ++ place ∷ l) (sym rest)
    ∙ ap (with_place order place) c.deref.ensures.value in
    rw same (put_indexed order place ps c.args.rows.now.items c.put_labels.new.rows.items c.requires.indexed c.requires.rising c.requires.others c.requires.writes c.put_labels.ensures.ordered
    (rw c.as_slice.ensures.items at c.put_labels.ensures.each))
