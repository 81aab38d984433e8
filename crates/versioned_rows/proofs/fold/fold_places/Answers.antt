use Rattle.std.proofs.Common.{List, ap, sym, subst, take, ◌∙◌, arith}
use Rattle.versioned_rows.specs.Places.{label_behind}
use Rattle.versioned_rows.specs.Versions.{IsIndexed}
use Rattle.versioned_rows.specs.declared.places.PlaceWrites.{PlaceWrites}
use Rattle.versioned_rows.proofs.FoldLemmas.{end_known, fold_base, fold_indexed}
use Rattle.versioned_rows.proofs.fold.fold_places.Goals as goal

pub settle_all-requires-clause-end : goal.settle_all-requires-clause-end
settle_all-requires-clause-end c =
    let is = c.label_behind-end.ensures ∙ ap (label_behind c.args.n) c.deref.ensures.value in
    rw is (end_known c.args.order.now.labels c.args.n c.args.places.now.items c.requires.rising)

pub returns-clause-base : goal.returns-clause-base
returns-clause-base c =
    let ps = c.args.places.now.items in
    fold_base c.args.rows.now.items c.settle_all.new.rows.items (take c.args.n ps) c.requires.indexed.ordered c.settle_all.ensures.ordered (rw c.deref-2.ensures.value at c.settle_all.ensures.bases)

pub returns-clause-indexed : goal.returns-clause-indexed
returns-clause-indexed c =
    let ps = c.args.places.now.items in
    let ok = c.args.places.now.ok.0 in
    let within = c.requires.within in
    let is = c.label_behind-end.ensures ∙ ap (label_behind c.args.n) c.deref.ensures.value in
    let each = rw (c.deref-2.ensures.value, is) at c.settle_all.ensures.each in
    let P : List PlaceWrites → Type 0 = λ l. IsIndexed l c.settle_all.new.rows.items in
    subst P (sym c.drop_front.ensures.items)
    (fold_indexed c.args.order.now.labels ps c.args.n c.requires.rising (omega (arith, ok, within)) c.args.rows.now.items c.settle_all.new.rows.items c.requires.indexed c.settle_all.ensures.ordered each)
