use Rattle.std.proofs.Common.{◌≡◌, ◌+◌, ◌-◌, ◌<◌, length, sym, ◌∙◌, arith}
use Rattle.lang_core.specs.Places.{place_of}
use Rattle.lang_core.proofs.SeekLemmas.{found_rank, found_taken}
use Rattle.key_labels.specs.KeyRows.{in_order}
use Rattle.key_labels.specs.Rows.{row_place}
use Rattle.key_labels.proofs.KeyRowLemmas.{met_rank, met_taken, row_inside, sought_behind}
use Rattle.key_labels.proofs.SlotLemmas.{length_in}
use Rattle.key_labels.proofs.key_rows.rank_to.Goals as goal

pub returns-then-place-eq0-clause-rank : goal.returns-then-place-eq0-clause-rank
returns-then-place-eq0-clause-rank c = let none = c.if-place-eq0.true in met_rank c.requires.sought (omega arith) (omega (arith, none))

pub returns-then-place-eq0-clause-taken : goal.returns-then-place-eq0-clause-taken
returns-then-place-eq0-clause-taken c = let none = c.if-place-eq0.true in sym (met_taken c.requires.sought (omega arith) (omega (arith, none)))

pub row_at-requires-clause-place : goal.row_at-requires-clause-place
row_at-requires-clause-place c =
    let within = c.requires.within in
    let some : 0 < c.args.place = grind (arith, c.if-place-eq0.false) in
    omega (arith, within, some)

pub returns-in-Equal-clause-rank : goal.returns-in-Equal-clause-rank
returns-in-Equal-clause-rank c =
    let order = c.args.order.now.items in
    let slots = c.args.slots.now.items in
    let items = in_order order slots in
    let p = place_of c.args.table.now c.args.key.now in
    let within = c.requires.within in
    let some : 0 < c.args.place = grind (arith, c.if-place-eq0.false) in
    let lt : c.args.place - 1 < length order = omega (arith, within, some) in
    let inside = row_inside order slots c.requires.arranged lt in
    found_rank row_place p items c.requires.ordered (c.args.place - 1) c.row_at.result.now inside c.row_at.ensures (sym c.in-Equal.is ∙ c.order_of.ensures)

pub returns-in-Equal-clause-taken : goal.returns-in-Equal-clause-taken
returns-in-Equal-clause-taken c =
    let order = c.args.order.now.items in
    let slots = c.args.slots.now.items in
    let items = in_order order slots in
    let p = place_of c.args.table.now c.args.key.now in
    let within = c.requires.within in
    let some : 0 < c.args.place = grind (arith, c.if-place-eq0.false) in
    let lt : c.args.place - 1 < length order = omega (arith, within, some) in
    let inside = row_inside order slots c.requires.arranged lt in
    sym (found_taken row_place p items c.requires.ordered (c.args.place - 1) c.row_at.result.now inside c.row_at.ensures (sym c.in-Equal.is ∙ c.order_of.ensures))

pub returns-in-Greater-clause-rank : goal.returns-in-Greater-clause-rank
returns-in-Greater-clause-rank c =
    let order = c.args.order.now.items in
    let slots = c.args.slots.now.items in
    let items = in_order order slots in
    let p = place_of c.args.table.now c.args.key.now in
    let within = c.requires.within in
    let some : 0 < c.args.place = grind (arith, c.if-place-eq0.false) in
    let lt : c.args.place - 1 < length order = omega (arith, within, some) in
    let inside = row_inside order slots c.requires.arranged lt in
    let long = length_in order slots c.requires.arranged.within in
    let sought = sought_behind c.requires.ordered inside c.row_at.ensures (sym c.in-Greater.is ∙ c.order_of.ensures) c.requires.sought in
    let same : c.args.place ≡ c.args.place - 1 + 1 = omega (arith, some) in
    same ∙ met_rank sought (omega (arith, within, some, long)) (omega (arith, some))

pub returns-in-Greater-clause-taken : goal.returns-in-Greater-clause-taken
returns-in-Greater-clause-taken c =
    let order = c.args.order.now.items in
    let slots = c.args.slots.now.items in
    let items = in_order order slots in
    let p = place_of c.args.table.now c.args.key.now in
    let within = c.requires.within in
    let some : 0 < c.args.place = grind (arith, c.if-place-eq0.false) in
    let lt : c.args.place - 1 < length order = omega (arith, within, some) in
    let inside = row_inside order slots c.requires.arranged lt in
    let long = length_in order slots c.requires.arranged.within in
    let sought = sought_behind c.requires.ordered inside c.row_at.ensures (sym c.in-Greater.is ∙ c.order_of.ensures) c.requires.sought in
    sym (met_taken sought (omega (arith, within, some, long)) (omega (arith, some)))
