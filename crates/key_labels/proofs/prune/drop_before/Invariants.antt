use Rattle.std.proofs.Common.{◌≡◌, not, vec_capacity}
use Rattle.std.proofs.lemmas.List.Filters.{FiltersInPlace}
use Rattle.place_order.specs.Rising.{is_before}
use Rattle.key_labels.proofs.prune.drop_before.Given as goal

abbrev pub invariant-loop-at : goal.invariant-loop-at
invariant-loop-at g l = record {
  kept : FiltersInPlace (λ x. not (is_before l.order.labels l.end (g.T.Labelled.label x))) l.initial.items.items l.items.items l.kept l.at;
  capacity : vec_capacity l.items ≡ vec_capacity l.initial.items;
}
