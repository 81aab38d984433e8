use Rattle.std.proofs.Common.{ap, ◌∙◌, List, ◌≡◌, ◌≤◌, ◌∷◌, ◌++◌, length, take, drop, sym, subst, arith}
use Rattle.lang_core.specs.Places.{IsOrdered}
use Rattle.key_labels.specs.KeyRows.{in_order}
use Rattle.key_labels.specs.Rows.{row_place, labels_in, spare_in, has_row, KeepsRows}
use Rattle.key_labels.specs.declared.rows.KeyLabels.{KeyLabels}
use Rattle.key_labels.proofs.EditLemmas.{GoesAt, new_ordered, new_labels, new_kept, new_rows, new_there, new_made}
use Rattle.key_labels.proofs.KeyRowLemmas.{new_goes}
use Rattle.key_labels.proofs.SlotLemmas.{length_in}
use Rattle.key_labels.proofs.rows.add_row.Goals as goal

pub put_new-requires-clause-within : goal.put_new-requires-clause-within
put_new-requires-clause-within c =
    let le = c.requires.free.within in
    let seen = ap (λ v. length v.items) c.rows.view_is in
    let long = length_in c.rows.inside.order.items c.rows.inside.slots.items c.rows.invariant.within in
    omega (arith, le, seen, long)

-- the rows as they were when room was made
abbrev before : goal.In_ok-put_new → List KeyLabels
before c = in_order c.rows.inside.order.items c.ready_slot.new.slots.items

as_they_were : (c : goal.In_ok-put_new) → before c ≡ c.args.rows.now.items
as_they_were c =
    ap (in_order c.rows.inside.order.items) c.ready_slot.ensures.slots ∙ ap (λ v. v.items) c.rows.view_is

goes : (c : goal.In_ok-put_new) → GoesAt (before c) c.args.table.now c.args.key.now c.args.at c.in_ok-row.row
goes c = new_goes (as_they_were c) c.requires.ordered c.requires.free c.in_ok-row.ensures.table c.in_ok-row.ensures.key c.in_ok-row.ensures.base c.in_ok-row.ensures.labels

pub returns-clause-ordered : goal.returns-clause-ordered
returns-clause-ordered c = let P : List KeyLabels → Type 0 = λ l. IsOrdered row_place l in subst P (sym c.in_ok-put_new.ensures.ok) (new_ordered (goes c))

pub returns-clause-each : goal.returns-clause-each
returns-clause-each c = λ t k. ap (λ l. labels_in l t k) c.in_ok-put_new.ensures.ok ∙ new_labels (goes c) t k ∙ ap (λ l. labels_in l t k) (as_they_were c)

pub returns-clause-kept : goal.returns-clause-kept
returns-clause-kept c = λ t k.
    let P : List KeyLabels → Type 0 = λ l. spare_in c.args.rows.now.items t k ≤ spare_in l t k in
    let Q : List KeyLabels → Type 0 = λ l. spare_in l t k ≤ spare_in (take c.args.at (before c) ++ c.in_ok-row.row ∷ drop c.args.at (before c)) t k in
    subst P (sym c.in_ok-put_new.ensures.ok) (subst Q (as_they_were c) (new_kept (goes c) t k))

pub returns-clause-rows : goal.returns-clause-rows
returns-clause-rows c =
    let P : List KeyLabels → Type 0 = λ l. KeepsRows c.args.rows.now.items l in
    let Q : List KeyLabels → Type 0 = λ l. KeepsRows l (take c.args.at (before c) ++ c.in_ok-row.row ∷ drop c.args.at (before c)) in
    subst P (sym c.in_ok-put_new.ensures.ok) (subst Q (as_they_were c) (new_rows (goes c)))

pub returns-clause-spare : goal.returns-clause-spare
returns-clause-spare c =
    let P : List KeyLabels → Type 0 = λ l. c.args.spare ≤ spare_in l c.args.table.now c.args.key.now in
    subst P (sym c.in_ok-put_new.ensures.ok) (new_made (goes c) c.args.spare c.in_ok-row.ensures.spare)

pub returns-clause-row : goal.returns-clause-row
returns-clause-row c = ap (λ l. has_row l c.args.table.now c.args.key.now) c.in_ok-put_new.ensures.ok ∙ new_there (goes c)
