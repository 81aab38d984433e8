use Rattle.std.proofs.Common.{◌<◌, ◌≤◌, length, sym, ◌∙◌, arith}
use Rattle.lang_core.specs.Places.{place_of}
use Rattle.lang_core.proofs.SeekLemmas.{found_rank, found_taken}
use Rattle.key_labels.specs.KeyRows.{in_order}
use Rattle.key_labels.specs.Rows.{row_place}
use Rattle.key_labels.proofs.KeyRowLemmas.{met_rank, met_taken, row_inside, sought_before}
use Rattle.key_labels.proofs.SlotLemmas.{length_in}
use Rattle.key_labels.proofs.key_rows.rank_from.Goals as goal

pub returns-then-place-end-clause-rank : goal.returns-then-place-end-clause-rank
returns-then-place-end-clause-rank c =
    let within = c.requires.within in
    let long = length_in c.args.order.now.items c.args.slots.now.items c.requires.arranged.within in
    let ends : c.args.place ≤ length (in_order c.args.order.now.items c.args.slots.now.items) = omega (arith, within, long) in
    let at_end = c.if-place-end.true ∙ c.len-end.ensures in
    met_rank c.requires.sought ends (omega (arith, at_end))

pub returns-then-place-end-clause-taken : goal.returns-then-place-end-clause-taken
returns-then-place-end-clause-taken c =
    let within = c.requires.within in
    let long = length_in c.args.order.now.items c.args.slots.now.items c.requires.arranged.within in
    let ends : c.args.place ≤ length (in_order c.args.order.now.items c.args.slots.now.items) = omega (arith, within, long) in
    let at_end = c.if-place-end.true ∙ c.len-end.ensures in
    sym (met_taken c.requires.sought ends (omega (arith, at_end)))

pub returns-in-Less-clause-rank : goal.returns-in-Less-clause-rank
returns-in-Less-clause-rank c =
    let within = c.requires.within in
    let end = c.len-end.ensures in
    let lt : c.args.place < length c.args.order.now.items = grind (arith, c.if-place-end.false) in
    let inside = row_inside c.args.order.now.items c.args.slots.now.items c.requires.arranged lt in
    let long = length_in c.args.order.now.items c.args.slots.now.items c.requires.arranged.within in
    let ends : c.args.place ≤ length (in_order c.args.order.now.items c.args.slots.now.items) = omega (arith, within, long) in
    let sought = sought_before c.requires.ordered inside c.row_at.ensures (sym c.in-Less.is ∙ c.order_of.ensures) c.requires.sought in
    met_rank sought ends (omega arith)

pub returns-in-Less-clause-taken : goal.returns-in-Less-clause-taken
returns-in-Less-clause-taken c =
    let within = c.requires.within in
    let end = c.len-end.ensures in
    let lt : c.args.place < length c.args.order.now.items = grind (arith, c.if-place-end.false) in
    let inside = row_inside c.args.order.now.items c.args.slots.now.items c.requires.arranged lt in
    let long = length_in c.args.order.now.items c.args.slots.now.items c.requires.arranged.within in
    let ends : c.args.place ≤ length (in_order c.args.order.now.items c.args.slots.now.items) = omega (arith, within, long) in
    let sought = sought_before c.requires.ordered inside c.row_at.ensures (sym c.in-Less.is ∙ c.order_of.ensures) c.requires.sought in
    sym (met_taken sought ends (omega arith))

pub returns-in-Equal-clause-rank : goal.returns-in-Equal-clause-rank
returns-in-Equal-clause-rank c =
    let within = c.requires.within in
    let end = c.len-end.ensures in
    let lt : c.args.place < length c.args.order.now.items = grind (arith, c.if-place-end.false) in
    let inside = row_inside c.args.order.now.items c.args.slots.now.items c.requires.arranged lt in
    let items = in_order c.args.order.now.items c.args.slots.now.items in
    let p = place_of c.args.table.now c.args.key.now in
    found_rank row_place p items c.requires.ordered c.args.place c.row_at.result.now inside c.row_at.ensures (sym c.in-Equal.is ∙ c.order_of.ensures)

pub returns-in-Equal-clause-taken : goal.returns-in-Equal-clause-taken
returns-in-Equal-clause-taken c =
    let within = c.requires.within in
    let end = c.len-end.ensures in
    let lt : c.args.place < length c.args.order.now.items = grind (arith, c.if-place-end.false) in
    let inside = row_inside c.args.order.now.items c.args.slots.now.items c.requires.arranged lt in
    let items = in_order c.args.order.now.items c.args.slots.now.items in
    let p = place_of c.args.table.now c.args.key.now in
    sym (found_taken row_place p items c.requires.ordered c.args.place c.row_at.result.now inside c.row_at.ensures (sym c.in-Equal.is ∙ c.order_of.ensures))
