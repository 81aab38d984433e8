use Rattle.std.proofs.Common.{List, ℕ, ap, sym, subst}
use Rattle.std.specs.List.{AllZip}
use Rattle.key_labels.specs.KeyRows.{in_order}
use Rattle.key_labels.specs.Rows.{IsCopy}
use Rattle.key_labels.specs.declared.rows.KeyLabels.{KeyLabels}
use Rattle.key_labels.proofs.CopyLemmas.{ordered_copy, labels_copy, rows_copy}
use Rattle.key_labels.proofs.SlotLemmas.{zip_in}
use Rattle.key_labels.proofs.rows.copied_rows.Goals as goal

-- the rows and their copies, in their order
copies : (c : goal.In_ok-slots) → AllZip IsCopy c.args.rows.now.items (in_order c.in_ok-order.order.items c.in_ok-slots.slots.items)
copies c =
    let order = c.rows.inside.order.items in
    let slots = c.rows.inside.slots.items in
    let copied = c.in_ok-slots.slots.items in
    let P : List KeyLabels → Type 0 = λ l. AllZip IsCopy l copied in
    let Q : List ℕ → Type 0 = λ l. AllZip IsCopy (in_order order slots) (in_order l copied) in
    let R : List KeyLabels → Type 0 = λ l. AllZip IsCopy l (in_order c.in_ok-order.order.items copied) in
    let same = c.in_ok-order.ensures in
    subst R (ap (λ v. v.items) c.rows.view_is) (subst Q (sym same) (zip_in IsCopy order slots copied c.rows.invariant.within (subst P c.deref-2.ensures.value c.in_ok-slots.ensures)))

pub returns-clause-ordered : goal.returns-clause-ordered
returns-clause-ordered c = ordered_copy _ _ (copies c) c.requires

pub returns-clause-each : goal.returns-clause-each
returns-clause-each c = labels_copy _ _ (copies c)

pub returns-clause-rows : goal.returns-clause-rows
returns-clause-rows c = rows_copy _ _ (copies c)
