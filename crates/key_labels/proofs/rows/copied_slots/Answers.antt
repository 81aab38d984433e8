use Rattle.std.proofs.Common.{◌<◌, ◌+◌, List, length, take, sym, subst, arith}
use Rattle.std.specs.List.{AllZip}
use Rattle.std.proofs.lemmas.List.Elements.{all_zip_more}
use Rattle.key_labels.specs.Rows.{IsCopy}
use Rattle.key_labels.specs.declared.rows.KeyLabels.{KeyLabels}
use Rattle.key_labels.proofs.ListLemmas.{take_whole}
use Rattle.key_labels.proofs.rows.copied_slots.Goals as goal

pub loop-row-preserved : goal.loop-row-preserved
loop-row-preserved c =
    let slots = c.args.slots.now in
    let i = c.loop-row.row-index in
    let lt : i < length slots = omega arith in
    let P : List KeyLabels → Type 0 = λ l. AllZip IsCopy (take (i + 1) slots) l in
    subst P (sym c.in_ok-push.ensures.items) (all_zip_more IsCopy slots c.loop-row.copies.items i c.row-item.result c.in_ok-copied_row.field-0 lt c.row-item.is c.loop-row.invariant c.in_ok-copied_row.ensures)

pub returns : goal.returns
returns c =
    let slots = c.args.slots.now in
    let P : List KeyLabels → Type 0 = λ l. AllZip IsCopy l c.loop-row.copies.items in
    subst P (take_whole slots c.loop-row.row-index (omega arith)) c.loop-row.invariant
