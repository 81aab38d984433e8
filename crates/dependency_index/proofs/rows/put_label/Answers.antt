use Rattle.std.proofs.Common.{◌≡◌, ◌<◌, ℕ, List, ◌∷◌, ◌++◌, suc, length, take, drop, sym, ap, ◌∙◌, subst, arith}
use Rattle.std.proofs.lemmas.List.{map-id}
use Rattle.key_labels.specs.Rows.{labels_in, IsEdited}
use Rattle.key_labels.proofs.EditLemmas.{edits_nothing}
use Rattle.dependency_index.specs.Numbers.{with_number}
use Rattle.dependency_index.proofs.NumberLemmas.{parted, ends_are, longer_by}
use Rattle.dependency_index.proofs.PutLemmas.{places_kept}
use Rattle.dependency_index.proofs.rows.put_label.Goals as goal

pub seek_number-at-requires : goal.seek_number-at-requires
seek_number-at-requires c = rw (map-id, c.labels_near.ensures) c.requires.rising

pub returns-then-taken-clause-edited : goal.returns-then-taken-clause-edited
returns-then-taken-clause-edited c =
    let rows = c.args.rows.now.items in
    let t = c.args.table.now in
    let k = c.args.key.now in
    let xs = labels_in rows t k in
    let at = c.seek_number-at.result.0 in
    let n = c.args.label in
    let below = rw c.labels_near.ensures at c.seek_number-at.ensures.below in
    let above = rw (c.if-taken.true, c.labels_near.ensures) at c.seek_number-at.ensures.above in
    let lt : at < length xs = rw c.labels_near.ensures at (c.seek_number-at.ensures.within.there c.if-taken.true) in
    let here = rw c.labels_near.ensures at (c.seek_number-at.ensures.here c.if-taken.true n) in
    edits_nothing rows t k (with_number n xs) (sym (ends_are n xs (take at xs) (drop (suc at) xs) below above ∙ parted at n xs lt (sym here)))

pub insert_label-requires-clause-within : goal.insert_label-requires-clause-within
insert_label-requires-clause-within c = rw c.labels_near.ensures at c.seek_number-at.ensures.within.within

pub insert_label-requires-clause-spare : goal.insert_label-requires-clause-spare
insert_label-requires-clause-spare c =
    let xs = labels_in c.args.rows.now.items c.args.table.now c.args.key.now in
    let at = c.seek_number-at.result.0 in
    let n = c.args.label in
    let below = rw c.labels_near.ensures at c.seek_number-at.ensures.below in
    let above = rw (c.if-taken.false, c.labels_near.ensures) at c.seek_number-at.ensures.above in
    let is : with_number n xs ≡ take at xs ++ n ∷ drop at xs = ends_are n xs (take at xs) (drop at xs) below above in
    let long = longer_by n at xs ∙ sym (ap length is) in
    let fits = c.requires.fits in
    omega arith

pub returns-clause-edited : goal.returns-clause-edited
returns-clause-edited c =
    let xs = labels_in c.args.rows.now.items c.args.table.now c.args.key.now in
    let at = c.seek_number-at.result.0 in
    let n = c.args.label in
    let below = rw c.labels_near.ensures at c.seek_number-at.ensures.below in
    let above = rw (c.if-taken.false, c.labels_near.ensures) at c.seek_number-at.ensures.above in
    let is : with_number n xs ≡ take at xs ++ n ∷ drop at xs = ends_are n xs (take at xs) (drop at xs) below above in
    let P : List ℕ → Type 0 = λ l. IsEdited c.args.table.now c.args.key.now l c.args.rows.now.items c.insert_label.new.rows.items in
    subst P (sym is) c.insert_label.ensures.edited

pub returns-clause-places : goal.returns-clause-places
returns-clause-places c =
    places_kept c.args.rows.now.items c.insert_label.new.rows.items c.args.table.now c.args.key.now c.seek_number-at.result.0 c.args.label c.insert_label.ensures.edited c.insert_label.ensures.spare
