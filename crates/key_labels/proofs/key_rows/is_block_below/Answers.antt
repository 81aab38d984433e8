use Rattle.std.proofs.Common.{◌<◌, ℕ, List, length, sym, ap, ◌∙◌, subst}
use Rattle.std.specs.List.{AllByRecursion}
use Rattle.lang_core.specs.Places.{place_of}
use Rattle.number_blocks.specs.Blocks.{begins}
use Rattle.key_labels.specs.KeyRows.{is_slot_below}
use Rattle.key_labels.proofs.key_rows.is_block_below.Goals as goal

pub is_slot_below-requires : goal.is_slot_below-requires
is_slot_below-requires c =
    let P : List ℕ → Type 0 = λ l. AllByRecursion (λ slot. slot < length c.args.slots.now.items) l in
    (subst P c.first.ensures c.requires.slots).0

pub returns : goal.returns
returns c =
    let below = is_slot_below (place_of c.args.table.now c.args.key.now) c.args.slots.now.items in
    c.is_slot_below.ensures ∙ ap (begins below) (sym c.first.ensures)
