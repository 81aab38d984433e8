use Rattle.std.proofs.Common.{◌≡◌, ◌++◌, take, nat_lt, sym, ap, ◌∙◌}
use Rattle.std.specs.List.{filter}
use Rattle.std.proofs.lemmas.List.{map-id}
use Rattle.key_labels.specs.Labels.{behind, is_other}
use Rattle.key_labels.specs.Rows.{labels_in}
use Rattle.key_labels.proofs.EditLemmas.{edits_nothing}
use Rattle.dependency_index.proofs.NumberLemmas.{others, take-drop}
use Rattle.dependency_index.proofs.prune.prune_where.Goals as goal

pub seek_number-found-requires : goal.seek_number-found-requires
seek_number-found-requires c = rw (map-id, c.labels_in.ensures) c.requires.prunable.rising

pub returns-else-found-clause-edited : goal.returns-else-found-clause-edited
returns-else-found-clause-edited c =
    let rows = c.args.rows.now.items in
    let t = c.args.table.now in
    let k = c.args.key.now in
    let label = c.args.label in
    let row = labels_in rows t k in
    let at = c.seek_number-found.result.0 in
    let below = rw c.labels_in.ensures at c.seek_number-found.ensures.below in
    let above = rw (c.if-found.false, c.labels_in.ensures) at c.seek_number-found.ensures.above in
    let whole : filter (is_other label) row ≡ row =
    others label row c.requires.prunable.rising ∙ ap (λ l. l ++ filter (λ x. nat_lt label x) row) below ∙ ap (λ l. take at row ++ l) above ∙ take-drop at row in
    edits_nothing rows t k (behind c.args.order.now.labels c.args.end row) (sym (c.requires.prunable.pruned whole))
