use Rattle.std.proofs.Common.{◌∙◌}
use Rattle.std.specs.Ordering.{is_gt}
use Rattle.lang_core.specs.Places.{place_of, place_order}
use Rattle.key_labels.specs.Rows.{row_place}
use Rattle.key_labels.proofs.SlotLemmas.{test_is}
use Rattle.key_labels.proofs.key_rows.is_slot_below.Goals as goal

pub returns : goal.returns
returns c =
    let p = place_of c.args.table.now c.args.key.now in
    c.is_below.ensures ∙ test_is (λ r. is_gt (place_order p (row_place r))) c.args.slots.now.items c.args.slot c.index.result.now c.requires c.index.ensures
