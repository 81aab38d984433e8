use Rattle.std.proofs.Common.{ℕ, List, filter, sym, ap, ◌∙◌, subst}
use Rattle.place_order.specs.Rising.{IsRising}
use Rattle.key_labels.specs.Rows.{labels_in}
use Rattle.key_labels.specs.Labels.{is_other}
use Rattle.key_labels.proofs.EditLemmas.{labels_here, edits_nothing}
use Rattle.key_labels.proofs.KeyRowLemmas.{stands_in, slot_ordered, slot_labels, slot_kept, slot_rows, none_labels}
use Rattle.key_labels.proofs.rows.drop_label_in.Goals as goal

pub drop_in-requires-clause-rising : goal.drop_in-requires-clause-rising
drop_in-requires-clause-rising c =
    let s = stands_in (ap (λ v. v.items) c.rows.view_is) c.rows.invariant c.requires.ordered c.in-Ok.ensures c.index_mut.ensures.value in
    let P : List ℕ → Type 0 = λ l. IsRising c.args.order.now.labels l in
    subst P (labels_here s.stands) c.requires.rising

pub returns-in-Ok-clause-ordered : goal.returns-in-Ok-clause-ordered
returns-in-Ok-clause-ordered c =
    let s = stands_in (ap (λ v. v.items) c.rows.view_is) c.rows.invariant c.requires.ordered c.in-Ok.ensures c.index_mut.ensures.value in
    slot_ordered s c.drop_in.new.self c.drop_in.ensures.place

pub returns-in-Ok-clause-spare : goal.returns-in-Ok-clause-spare
returns-in-Ok-clause-spare c =
    let s = stands_in (ap (λ v. v.items) c.rows.view_is) c.rows.invariant c.requires.ordered c.in-Ok.ensures c.index_mut.ensures.value in
    slot_kept s c.drop_in.new.self c.drop_in.ensures.place c.drop_in.ensures.spare

pub returns-in-Ok-clause-rows : goal.returns-in-Ok-clause-rows
returns-in-Ok-clause-rows c =
    let s = stands_in (ap (λ v. v.items) c.rows.view_is) c.rows.invariant c.requires.ordered c.in-Ok.ensures c.index_mut.ensures.value in
    slot_rows s c.drop_in.new.self c.drop_in.ensures.place c.drop_in.ensures.base

pub returns-in-Ok-clause-edited : goal.returns-in-Ok-clause-edited
returns-in-Ok-clause-edited c =
    let s = stands_in (ap (λ v. v.items) c.rows.view_is) c.rows.invariant c.requires.ordered c.in-Ok.ensures c.index_mut.ensures.value in
    slot_labels s c.drop_in.new.self c.drop_in.ensures.place (filter (is_other c.args.label) (labels_in c.args.rows.now.items c.args.table.now c.args.key.now))
    (c.drop_in.ensures.labels ∙ ap (filter (is_other c.args.label)) (sym (labels_here s.stands)))

pub returns-in-Err-clause-edited : goal.returns-in-Err-clause-edited
returns-in-Err-clause-edited c =
    let rows = c.args.rows.now.items in
    let t = c.args.table.now in
    let k = c.args.key.now in
    let none = none_labels (ap (λ v. v.items) c.rows.view_is) c.requires.ordered c.in-Err.ensures in
    edits_nothing rows t k (filter (is_other c.args.label) (labels_in rows t k)) (none ∙ sym (ap (filter (is_other c.args.label)) none))
