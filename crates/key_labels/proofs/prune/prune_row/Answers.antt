use Rattle.std.proofs.Common.{ℕ, List, sym, ap, ◌∙◌, subst}
use Rattle.std.specs.List.{All, Contains}
use Rattle.key_labels.specs.Labels.{behind}
use Rattle.key_labels.specs.Rows.{labels_in}
use Rattle.key_labels.proofs.EditLemmas.{labels_here, edits_nothing}
use Rattle.key_labels.proofs.KeyRowLemmas.{stands_in, slot_ordered, slot_labels, slot_kept, slot_rows, none_labels}
use Rattle.key_labels.proofs.prune.prune_row.Goals as goal

pub prune-requires-clause-known : goal.prune-requires-clause-known
prune-requires-clause-known c =
    let s = stands_in (ap (λ v. v.items) c.rows.view_is) c.rows.invariant c.requires.ordered c.in-Ok.ensures c.index_mut.ensures.value in
    let P : List ℕ → Type 0 = λ l. All (Contains c.args.order.now.labels) l in
    subst P (labels_here s.stands) c.requires.known

pub returns-in-Ok-clause-ordered : goal.returns-in-Ok-clause-ordered
returns-in-Ok-clause-ordered c =
    let s = stands_in (ap (λ v. v.items) c.rows.view_is) c.rows.invariant c.requires.ordered c.in-Ok.ensures c.index_mut.ensures.value in
    slot_ordered s c.prune.new.row c.prune.ensures.place

pub returns-in-Ok-clause-edited : goal.returns-in-Ok-clause-edited
returns-in-Ok-clause-edited c =
    let s = stands_in (ap (λ v. v.items) c.rows.view_is) c.rows.invariant c.requires.ordered c.in-Ok.ensures c.index_mut.ensures.value in
    slot_labels s c.prune.new.row c.prune.ensures.place (behind c.args.order.now.labels c.args.end (labels_in c.args.rows.now.items c.args.table.now c.args.key.now))
    (c.prune.ensures.labels ∙ ap (behind c.args.order.now.labels c.args.end) (sym (labels_here s.stands)))

pub returns-in-Ok-clause-spare : goal.returns-in-Ok-clause-spare
returns-in-Ok-clause-spare c =
    let s = stands_in (ap (λ v. v.items) c.rows.view_is) c.rows.invariant c.requires.ordered c.in-Ok.ensures c.index_mut.ensures.value in
    slot_kept s c.prune.new.row c.prune.ensures.place c.prune.ensures.spare

pub returns-in-Ok-clause-rows : goal.returns-in-Ok-clause-rows
returns-in-Ok-clause-rows c =
    let s = stands_in (ap (λ v. v.items) c.rows.view_is) c.rows.invariant c.requires.ordered c.in-Ok.ensures c.index_mut.ensures.value in
    slot_rows s c.prune.new.row c.prune.ensures.place c.prune.ensures.base

pub returns-in-Err-clause-edited : goal.returns-in-Err-clause-edited
returns-in-Err-clause-edited c =
    let rows = c.args.rows.now.items in
    let t = c.args.table.now in
    let k = c.args.key.now in
    let none = none_labels (ap (λ v. v.items) c.rows.view_is) c.requires.ordered c.in-Err.ensures in
    edits_nothing rows t k (behind c.args.order.now.labels c.args.end (labels_in rows t k)) (none ∙ sym (ap (behind c.args.order.now.labels c.args.end) none))
