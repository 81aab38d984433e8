use Rattle.std.proofs.Common.{◌<◌, length, sym, ◌∙◌, arith}
use Rattle.lang_core.specs.Places.{place_of}
use Rattle.lang_core.proofs.SeekLemmas.{found_rank, found_taken}
use Rattle.key_labels.specs.KeyRows.{in_order}
use Rattle.key_labels.specs.Rows.{row_place}
use Rattle.key_labels.proofs.KeyRowLemmas.{row_inside, sought_all, sought_behind, sought_before}
use Rattle.key_labels.proofs.SlotLemmas.{length_in}
use Rattle.key_labels.proofs.key_rows.rank_near.Goals as goal

pub rank_to-requires-clause-sought : goal.rank_to-requires-clause-sought
rank_to-requires-clause-sought c =
    let end = c.len.ensures in
    let lt : c.args.place < length c.args.order.now.items = grind (arith, c.if-place-len.false) in
    let inside = row_inside c.args.order.now.items c.args.slots.now.items c.requires.arranged lt in
    let items = in_order c.args.order.now.items c.args.slots.now.items in
    let all = sought_all (place_of c.args.table.now c.args.key.now) items (length c.args.order.now.items) (sym (length_in c.args.order.now.items c.args.slots.now.items c.requires.arranged.within)) in
    sought_before c.requires.ordered inside c.row_at.ensures (sym c.in-Less.is ∙ c.order_of.ensures) all

pub rank_from-requires-clause-sought : goal.rank_from-requires-clause-sought
rank_from-requires-clause-sought c =
    let end = c.len.ensures in
    let lt : c.args.place < length c.args.order.now.items = grind (arith, c.if-place-len.false) in
    let inside = row_inside c.args.order.now.items c.args.slots.now.items c.requires.arranged lt in
    let items = in_order c.args.order.now.items c.args.slots.now.items in
    let all = sought_all (place_of c.args.table.now c.args.key.now) items (length c.args.order.now.items) (sym (length_in c.args.order.now.items c.args.slots.now.items c.requires.arranged.within)) in
    sought_behind c.requires.ordered inside c.row_at.ensures (sym c.in-Greater.is ∙ c.order_of.ensures) all

pub returns-in-Equal-clause-rank : goal.returns-in-Equal-clause-rank
returns-in-Equal-clause-rank c =
    let end = c.len.ensures in
    let lt : c.args.place < length c.args.order.now.items = grind (arith, c.if-place-len.false) in
    let inside = row_inside c.args.order.now.items c.args.slots.now.items c.requires.arranged lt in
    let items = in_order c.args.order.now.items c.args.slots.now.items in
    let p = place_of c.args.table.now c.args.key.now in
    found_rank row_place p items c.requires.ordered c.args.place c.row_at.result.now inside c.row_at.ensures (sym c.in-Equal.is ∙ c.order_of.ensures)

pub returns-in-Equal-clause-taken : goal.returns-in-Equal-clause-taken
returns-in-Equal-clause-taken c =
    let end = c.len.ensures in
    let lt : c.args.place < length c.args.order.now.items = grind (arith, c.if-place-len.false) in
    let inside = row_inside c.args.order.now.items c.args.slots.now.items c.requires.arranged lt in
    let items = in_order c.args.order.now.items c.args.slots.now.items in
    let p = place_of c.args.table.now c.args.key.now in
    sym (found_taken row_place p items c.requires.ordered c.args.place c.row_at.result.now inside c.row_at.ensures (sym c.in-Equal.is ∙ c.order_of.ensures))
