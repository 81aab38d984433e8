use Rattle.std.proofs.Common.{◌≡◌, ◌+◌, ◌<◌, ℕ, length, not, get_or, sym, ap, ◌∙◌, subst, arith, rules}
use Rattle.std.specs.List.{Contains}
use Rattle.std.proofs.lemmas.List.{get_or-drop, get_or-map, length-map}
use Rattle.std.proofs.lemmas.List.Filters.{FiltersInPlace-more_no, FiltersInPlace-more_swap}
use Rattle.place_order.specs.Rising.{is_before}
use Rattle.key_labels.proofs.prune.drop_before.Goals as goal

pub is_before-requires-clause-label : goal.is_before-requires-clause-label
is_before-requires-clause-label g c =
    let label = g.T.Labelled.label in
    let xs = c.args.items.now.items in
    let ys = c.loop-at.items.items in
    let at = c.loop-at.at in
    let x = c.index.result.now in
    let kept = c.loop-at.invariant.kept in
    let lt : at < length xs = omega arith in
    let end : at + 0 ≡ at = omega arith in
    let here : x ≡ get_or xs at x =
    c.index.ensures ∙ ap (λ n. get_or ys n x) (sym end) ∙ sym (get_or-drop at ys 0 x) ∙ ap (λ l. get_or l 0 x) kept.rest ∙ get_or-drop at xs 0 x
    ∙ ap (λ n. get_or xs n x) end in
    let many = length-map xs label in
    let is = get_or-map label xs at x 0 lt ∙ ap label (sym here) ∙ sym c.label.ensures in
    let P : ℕ → Type 0 = λ n. Contains c.args.order.now.labels n in
    subst P is (c.requires.known at 0 (omega arith))

pub loop-at-preserved : goal.loop-at-preserved
loop-at-preserved g c =
    let kept = c.loop-at.invariant.kept in
    let before : c.is_before.result ≡ is_before c.args.order.now.labels c.args.end (g.T.Labelled.label c.index.result.now) =
    c.is_before.ensures ∙ ap (is_before c.args.order.now.labels c.args.end) c.label.ensures in
    elim c.if-not-is_before.branch [
      | goal.then-not-is_before w ↦ rw (w.items-is, w.kept-is) (record { kept = FiltersInPlace-more_swap kept (omega arith) (sym (ap not before) ∙ ap not w.if-not-is_before.true) c.index.ensures w.swap.ensures.by_index; capacity = search rules })
      | goal.else-not-is_before w ↦ rw (w.items-is, w.kept-is) (record { kept = FiltersInPlace-more_no kept (omega arith) (sym (ap not before) ∙ ap not w.if-not-is_before.false) c.index.ensures; capacity = search rules })
    ]
