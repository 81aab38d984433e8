use Rattle.std.proofs.Common.{ℕ, List, sym, ap, ◌∙◌, subst}
use Rattle.place_order.specs.Rising.{IsRising}
use Rattle.key_labels.specs.Labels.{behind}
use Rattle.key_labels.specs.Rows.{labels_in}
use Rattle.key_labels.proofs.EditLemmas.{labels_here}
use Rattle.key_labels.proofs.KeyRowLemmas.{stands_in, slot_ordered, slot_labels, slot_based, slot_kept, slot_keys, none_there}
use Rattle.key_labels.proofs.rows.settle_row.Goals as goal

pub settle-requires-clause-rising : goal.settle-requires-clause-rising
settle-requires-clause-rising c =
    let s = stands_in (ap (λ v. v.items) c.rows.view_is) c.rows.invariant c.requires.ordered c.in-Ok.ensures c.index_mut.ensures.value in
    let P : List ℕ → Type 0 = λ l. IsRising c.args.order.now.labels l in
    subst P (labels_here s.stands) c.requires.rising

pub returns-in-Ok-clause-ordered : goal.returns-in-Ok-clause-ordered
returns-in-Ok-clause-ordered c =
    let s = stands_in (ap (λ v. v.items) c.rows.view_is) c.rows.invariant c.requires.ordered c.in-Ok.ensures c.index_mut.ensures.value in
    slot_ordered s c.settle.new.self c.settle.ensures.place

pub returns-in-Ok-clause-edited : goal.returns-in-Ok-clause-edited
returns-in-Ok-clause-edited c =
    let s = stands_in (ap (λ v. v.items) c.rows.view_is) c.rows.invariant c.requires.ordered c.in-Ok.ensures c.index_mut.ensures.value in
    slot_labels s c.settle.new.self c.settle.ensures.place (behind c.args.order.now.labels c.args.end (labels_in c.args.rows.now.items c.args.table.now c.args.key.now))
    (c.settle.ensures.labels ∙ ap (behind c.args.order.now.labels c.args.end) (sym (labels_here s.stands)))

pub returns-in-Ok-clause-based : goal.returns-in-Ok-clause-based
returns-in-Ok-clause-based c =
    let s = stands_in (ap (λ v. v.items) c.rows.view_is) c.rows.invariant c.requires.ordered c.in-Ok.ensures c.index_mut.ensures.value in
    slot_based s c.settle.new.self c.settle.ensures.place c.args.base c.settle.ensures.base

pub returns-in-Ok-clause-spare : goal.returns-in-Ok-clause-spare
returns-in-Ok-clause-spare c =
    let s = stands_in (ap (λ v. v.items) c.rows.view_is) c.rows.invariant c.requires.ordered c.in-Ok.ensures c.index_mut.ensures.value in
    slot_kept s c.settle.new.self c.settle.ensures.place c.settle.ensures.spare

pub returns-in-Ok-clause-keys : goal.returns-in-Ok-clause-keys
returns-in-Ok-clause-keys c =
    let s = stands_in (ap (λ v. v.items) c.rows.view_is) c.rows.invariant c.requires.ordered c.in-Ok.ensures c.index_mut.ensures.value in
    slot_keys s c.settle.new.self c.settle.ensures.place

pub returns-in-Err-clause-edited : goal.returns-in-Err-clause-edited
returns-in-Err-clause-edited c =
    let none = none_there (ap (λ v. v.items) c.rows.view_is) c.requires.ordered c.in-Err.ensures in
    let there = c.requires.there in
    cc

pub returns-in-Err-clause-based : goal.returns-in-Err-clause-based
returns-in-Err-clause-based c =
    let none = none_there (ap (λ v. v.items) c.rows.view_is) c.requires.ordered c.in-Err.ensures in
    let there = c.requires.there in
    cc
