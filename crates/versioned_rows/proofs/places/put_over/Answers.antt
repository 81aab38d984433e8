use Rattle.std.proofs.Common.{ℕ, List, sym, subst}
use Rattle.place_order.specs.Rising.{IsRising}
use Rattle.key_labels.specs.Labels.{is_other}
use Rattle.versioned_rows.specs.Places.{label_of, is_written, without}
use Rattle.versioned_rows.specs.Versions.{IsIndexed}
use Rattle.versioned_rows.proofs.GetLemmas.{all_pass}
use Rattle.versioned_rows.proofs.IndexLemmas.{take_indexed, put_indexed}
use Rattle.versioned_rows.proofs.InsteadLemmas.{instead, instead_rising}
use Rattle.key_labels.proofs.RisingLemmas.{rising_kept}
use Rattle.versioned_rows.proofs.places.put_over.Goals as goal

pub drop_labels_in-requires-clause-rising : goal.drop_labels_in-requires-clause-rising
drop_labels_in-requires-clause-rising c = λ t k.
    let order = c.args.order.now.labels in
    let P : List ℕ → Type 0 = λ l. IsRising order l in
    subst P (sym (c.requires.indexed.each t k)) (rising_kept label_of order (λ p. is_written t k p.writes) c.args.places.now.items c.requires.rising)

pub put_labels-requires-clause-rising : goal.put_labels-requires-clause-rising
put_labels-requires-clause-rising c = λ t k.
    let ps = c.args.places.now.items in
    let label = c.args.place.label in
    let order = c.args.order.now.labels in
    let taken : IsIndexed (without label ps) c.drop_labels_in.new.rows.items =
    take_indexed label c.args.at c.index.result.now ps c.args.rows.now.items c.drop_labels_in.new.rows.items c.requires.indexed (sym c.requires.stands) c.index.ensures c.drop_labels_in.ensures.ordered
    (rw c.as_slice.ensures.items at c.drop_labels_in.ensures.each) in
    let P : List ℕ → Type 0 = λ l. IsRising order l in
    let rising = rising_kept label_of order (λ p. is_other label (label_of p)) ps c.requires.rising in
    subst P (sym (taken.each t k)) (rising_kept label_of order (λ p. is_written t k p.writes) (without label ps) rising)

pub returns-clause-places : goal.returns-clause-places
returns-clause-places c =
    instead c.args.place c.args.places.now.items c.args.at (sym c.requires.stands) c.args.order.now.labels c.requires.rising

pub returns-clause-rising : goal.returns-clause-rising
returns-clause-rising c =
    instead_rising c.args.place c.args.places.now.items c.args.at (sym c.requires.stands) c.args.order.now.labels c.requires.rising

pub returns-clause-indexed : goal.returns-clause-indexed
returns-clause-indexed c =
    let ps = c.args.places.now.items in
    let place = c.args.place in
    let order = c.args.order.now.labels in
    let others = is_other place.label in
    let taken : IsIndexed (without place.label ps) c.drop_labels_in.new.rows.items =
    take_indexed place.label c.args.at c.index.result.now ps c.args.rows.now.items c.drop_labels_in.new.rows.items c.requires.indexed (sym c.requires.stands) c.index.ensures c.drop_labels_in.ensures.ordered
    (rw c.as_slice.ensures.items at c.drop_labels_in.ensures.each) in
    let rising = rising_kept label_of order (λ p. others (label_of p)) ps c.requires.rising in
    rw (instead place ps c.args.at (sym c.requires.stands) order c.requires.rising)
    (put_indexed order place (without place.label ps) c.drop_labels_in.new.rows.items c.put_labels.new.rows.items taken rising (all_pass (λ p. others (label_of p)) ps)
    c.requires.writes c.put_labels.ensures.ordered (rw c.as_slice-2.ensures.items at c.put_labels.ensures.each))
