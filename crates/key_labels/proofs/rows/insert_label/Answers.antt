use Rattle.std.proofs.Common.{length, sym, ap, ◌∙◌, arith}
use Rattle.std.specs.List.{insert}
use Rattle.key_labels.specs.Rows.{labels_in}
use Rattle.key_labels.proofs.EditLemmas.{labels_here, spare_here}
use Rattle.key_labels.proofs.KeyRowLemmas.{stands_in, slot_ordered, slot_labels, slot_less, slot_rows, none_spare}
use Rattle.key_labels.proofs.rows.insert_label.Goals as goal

pub insert-requires-clause-within : goal.insert-requires-clause-within
insert-requires-clause-within c =
    let s = stands_in (ap (λ v. v.items) c.rows.view_is) c.rows.invariant c.requires.ordered c.in-Ok.ensures c.index_mut.ensures.value in
    let long = ap length (labels_here s.stands) in
    let le = c.requires.within in
    omega (arith, long, le)

pub insert-requires-clause-room : goal.insert-requires-clause-room
insert-requires-clause-room c =
    let s = stands_in (ap (λ v. v.items) c.rows.view_is) c.rows.invariant c.requires.ordered c.in-Ok.ensures c.index_mut.ensures.value in
    let spare = spare_here s.stands in
    let some = c.requires.spare in
    omega (arith, spare, some)

pub returns-in-Ok-clause-ordered : goal.returns-in-Ok-clause-ordered
returns-in-Ok-clause-ordered c =
    let s = stands_in (ap (λ v. v.items) c.rows.view_is) c.rows.invariant c.requires.ordered c.in-Ok.ensures c.index_mut.ensures.value in
    slot_ordered s c.insert.new.self c.insert.ensures.place

pub returns-in-Ok-clause-spare : goal.returns-in-Ok-clause-spare
returns-in-Ok-clause-spare c =
    let s = stands_in (ap (λ v. v.items) c.rows.view_is) c.rows.invariant c.requires.ordered c.in-Ok.ensures c.index_mut.ensures.value in
    slot_less s c.insert.new.self c.insert.ensures.place c.insert.ensures.spare

pub returns-in-Ok-clause-rows : goal.returns-in-Ok-clause-rows
returns-in-Ok-clause-rows c =
    let s = stands_in (ap (λ v. v.items) c.rows.view_is) c.rows.invariant c.requires.ordered c.in-Ok.ensures c.index_mut.ensures.value in
    slot_rows s c.insert.new.self c.insert.ensures.place c.insert.ensures.base

pub returns-in-Ok-clause-edited : goal.returns-in-Ok-clause-edited
returns-in-Ok-clause-edited c =
    let s = stands_in (ap (λ v. v.items) c.rows.view_is) c.rows.invariant c.requires.ordered c.in-Ok.ensures c.index_mut.ensures.value in
    slot_labels s c.insert.new.self c.insert.ensures.place (insert (labels_in c.args.rows.now.items c.args.table.now c.args.key.now) c.args.at c.args.label)
    (c.insert.ensures.labels ∙ ap (λ l. insert l c.args.at c.args.label) (sym (labels_here s.stands)))

pub returns-in-Err-clause-edited : goal.returns-in-Err-clause-edited
returns-in-Err-clause-edited c =
    let none = none_spare (ap (λ v. v.items) c.rows.view_is) c.requires.ordered c.in-Err.ensures in
    let some = c.requires.spare in
    absurd (omega (arith, none, some))
