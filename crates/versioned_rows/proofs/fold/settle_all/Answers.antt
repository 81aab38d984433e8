use Rattle.std.proofs.Common.{◌≡◌, ◌<◌, get_or, length, refl, take, sym, ap, ◌∙◌, subst, arith}
use Rattle.std.proofs.lemmas.List.{get_or-take, length-take-le}
use Rattle.lang_core.specs.Places.{IsOrdered}
use Rattle.lang_core.specs.Rows.{write_place}
use Rattle.key_labels.specs.Rows.{base_in, labels_in}
use Rattle.versioned_rows.specs.Places.{is_written, is_written_by}
use Rattle.versioned_rows.specs.Versions.{base_cells}
use Rattle.versioned_rows.specs.declared.places.PlaceWrites.{PlaceWrites}
use Rattle.versioned_rows.proofs.BaseLemmas.{get_base, ordered_base}
use Rattle.versioned_rows.proofs.FoldLemmas.{based_more, row_of_writer, settled_more, settled_rising, texts_first, texts_left}
use Rattle.versioned_rows.proofs.fold.settle_all.Goals as goal

pub loop-at-init : goal.loop-at-init
loop-at-init c = record {
  ordered = c.requires.indexed.ordered;
  each = λ t k. refl;
  bases = λ t k. sym (get_base c.args.rows.now.items c.requires.indexed.ordered t k);
  spare = λ t k. omega arith;
  keys = λ t k h. h;
  texts = c.requires.texts;
}

pub settle_writes-requires-clause-there : goal.settle_writes-requires-clause-there
settle_writes-requires-clause-there c = λ t k h.
    let ps = c.args.places.now in
    let within = c.requires.within in
    let lt : c.loop-at.at < length ps = omega arith in
    let wrote : c.as_slice.result.now ≡ c.index-places-at.result.writes = c.as_slice.ensures.items ∙ ap (λ (p : PlaceWrites). p.writes) (sym c.index-places-at.is) in
    c.loop-at.invariant.keys t k (row_of_writer ps c.args.rows.now.items c.loop-at.at c.index-places-at.result t k c.requires.indexed lt c.index-places-at.is (ap (is_written t k) (sym wrote) ∙ h))

pub settle_writes-requires-clause-rising : goal.settle_writes-requires-clause-rising
settle_writes-requires-clause-rising c = λ t k.
    settled_rising c.args.order.now.labels c.args.end c.args.places.now c.args.rows.now.items t k (labels_in c.loop-at.rows.items t k) (is_written_by t k (take c.loop-at.at (take c.args.n c.args.places.now)))
    c.requires.indexed c.requires.rising (c.loop-at.invariant.each t k)

pub settle_writes-requires-clause-texts : goal.settle_writes-requires-clause-texts
settle_writes-requires-clause-texts c =
    let ps = c.args.places.now in
    let i = c.loop-at.at in
    let q = c.index-places-at.result in
    let within = c.requires.within in
    let long = length-take-le c.args.n ps within in
    let lt : i < length (take c.args.n ps) = omega (arith, long) in
    let is : q ≡ get_or (take c.args.n ps) i q = c.index-places-at.is ∙ sym (get_or-take c.args.n ps i q (omega arith)) in
    let wrote : c.as_slice.result.now ≡ c.index-places-at.result.writes = c.as_slice.ensures.items ∙ ap (λ (p : PlaceWrites). p.writes) (sym c.index-places-at.is) in
    rw wrote (texts_first (take c.args.n ps) i q lt is c.loop-at.texts.items c.loop-at.invariant.texts)

pub loop-at-preserved : goal.loop-at-preserved
loop-at-preserved c =
    let ps = c.args.places.now in
    let qs = take c.args.n ps in
    let i = c.loop-at.at in
    let q = c.index-places-at.result in
    let rows = c.args.rows.now.items in
    let before = c.loop-at.rows.items in
    let after = c.settle_writes.new.rows.items in
    let within = c.requires.within in
    let long = length-take-le c.args.n ps within in
    let lt : i < length qs = omega (arith, long) in
    let inside : i < length ps = omega arith in
    let is : q ≡ get_or qs i q = c.index-places-at.is ∙ sym (get_or-take c.args.n ps i q (omega arith)) in
    let wrote : c.as_slice.result.now ≡ c.index-places-at.result.writes = c.as_slice.ensures.items ∙ ap (λ (p : PlaceWrites). p.writes) (sym c.index-places-at.is) in
    let each = rw wrote at c.settle_writes.ensures.each in
    let bases = rw wrote at c.settle_writes.ensures.bases in
    let texts = rw wrote at c.settle_writes.ensures.texts in
    let P : PlaceWrites → Type 0 = λ p. IsOrdered write_place p.writes in
    let ordered : P q = subst P (sym c.index-places-at.is) c.as_slice.ensures.ordered in
    record {
      ordered = c.settle_writes.ensures.ordered;
      each = λ t k. settled_more qs i q lt is c.args.order.now.labels c.args.end t k (labels_in rows t k) (labels_in before t k) (labels_in after t k) (c.loop-at.invariant.each t k) (each t k);
      bases = λ t k. based_more qs i q lt is (base_cells rows) t k (base_in before t k) (base_in after t k) (ordered_base rows c.requires.indexed.ordered) ordered (c.loop-at.invariant.bases t k) (bases t k);
      spare = λ t k. let a = c.settle_writes.ensures.spare t k in let b = c.loop-at.invariant.spare t k in omega arith;
      keys = λ t k h. c.settle_writes.ensures.keys t k (c.loop-at.invariant.keys t k h);
      texts = texts ∙ texts_left qs i q lt is c.loop-at.texts.items c.loop-at.invariant.texts;
    }
