use Rattle.std.proofs.Common.{ap}
use Rattle.std.proofs.lemmas.Result.{on_ok_weaker}
use Rattle.key_labels.proofs.KeyRowLemmas.{stands_in, slot_ordered, slot_same, slot_kept, slot_rows, slot_has, slot_made, free_here}
use Rattle.key_labels.proofs.rows.make_row.Goals as goal

pub returns-in-Ok-clause-ordered : goal.returns-in-Ok-clause-ordered
returns-in-Ok-clause-ordered c =
    let s = stands_in (ap (λ v. v.items) c.rows.view_is) c.rows.invariant c.requires c.in-Ok.ensures c.index_mut.ensures.value in
    slot_ordered s c.reserve.new.self c.reserve.ensures.place

pub returns-in-Ok-clause-each : goal.returns-in-Ok-clause-each
returns-in-Ok-clause-each c =
    let s = stands_in (ap (λ v. v.items) c.rows.view_is) c.rows.invariant c.requires c.in-Ok.ensures c.index_mut.ensures.value in
    slot_same s c.reserve.new.self c.reserve.ensures.place c.reserve.ensures.labels

pub returns-in-Ok-clause-kept : goal.returns-in-Ok-clause-kept
returns-in-Ok-clause-kept c =
    let s = stands_in (ap (λ v. v.items) c.rows.view_is) c.rows.invariant c.requires c.in-Ok.ensures c.index_mut.ensures.value in
    slot_kept s c.reserve.new.self c.reserve.ensures.place c.reserve.ensures.kept

pub returns-in-Ok-clause-rows : goal.returns-in-Ok-clause-rows
returns-in-Ok-clause-rows c =
    let s = stands_in (ap (λ v. v.items) c.rows.view_is) c.rows.invariant c.requires c.in-Ok.ensures c.index_mut.ensures.value in
    slot_rows s c.reserve.new.self c.reserve.ensures.place c.reserve.ensures.base

pub returns-in-Ok-clause-row : goal.returns-in-Ok-clause-row
returns-in-Ok-clause-row c =
    let s = stands_in (ap (λ v. v.items) c.rows.view_is) c.rows.invariant c.requires c.in-Ok.ensures c.index_mut.ensures.value in
    on_ok_weaker c.reserve.result (λ _. slot_has s c.reserve.new.self c.reserve.ensures.place) c.reserve.ensures.spare

pub returns-in-Ok-clause-spare : goal.returns-in-Ok-clause-spare
returns-in-Ok-clause-spare c =
    let s = stands_in (ap (λ v. v.items) c.rows.view_is) c.rows.invariant c.requires c.in-Ok.ensures c.index_mut.ensures.value in
    on_ok_weaker c.reserve.result (λ fits. slot_made s c.reserve.new.self c.reserve.ensures.place c.args.spare fits) c.reserve.ensures.spare

pub add_row-requires-clause-free : goal.add_row-requires-clause-free
add_row-requires-clause-free c = free_here (ap (λ v. v.items) c.rows.view_is) c.requires c.in-Err.ensures
