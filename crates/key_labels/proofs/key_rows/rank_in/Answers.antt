use Rattle.std.proofs.Common.{◌≡◌, ◌<◌, length, refl, sym, ◌∙◌, arith}
use Rattle.lang_core.specs.Places.{place_of, place_order}
use Rattle.lang_core.proofs.SeekLemmas.{taken_there}
use Rattle.key_labels.specs.KeyRows.{in_order}
use Rattle.key_labels.specs.Rows.{row_place}
use Rattle.key_labels.proofs.KeyRowLemmas.{end_taken, sought_all}
use Rattle.key_labels.proofs.SlotLemmas.{length_in}
use Rattle.key_labels.proofs.key_rows.rank_in.Goals as goal

pub returns-then-at-len-clause-taken : goal.returns-then-at-len-clause-taken
returns-then-at-len-clause-taken c =
    let items = in_order c.args.order.now.items c.args.slots.now.items in
    let p = place_of c.args.table.now c.args.key.now in
    let long = length_in c.args.order.now.items c.args.slots.now.items c.requires.arranged.within in
    let end = c.if-at-len.true ∙ c.len.ensures in
    let last : length items ≡ c.count_below-at.result = omega (arith, long, end) in
    sym (end_taken (sought_all p items (length items) refl) (omega arith) (last ∙ c.count_below-at.ensures.rank))

pub returns-then-at-len-clause-within : goal.returns-then-at-len-clause-within
returns-then-at-len-clause-within c = record { within = c.count_below-at.ensures.within; there = λ e. cc }

pub row_at-requires-clause-place : goal.row_at-requires-clause-place
row_at-requires-clause-place c =
    let le = c.count_below-at.ensures.within in
    let end = c.len.ensures in
    let inside : c.count_below-at.result < length c.args.order.now.items = grind (arith, c.if-at-len.false) in
    inside

pub returns-clause-within : goal.returns-clause-within
returns-clause-within c =
    let le = c.count_below-at.ensures.within in
    let end = c.len.ensures in
    let inside : c.count_below-at.result < length c.args.order.now.items = grind (arith, c.if-at-len.false) in
    record { within = le; there = λ e. inside }

pub returns-clause-taken : goal.returns-clause-taken
returns-clause-taken c =
    let order = c.args.order.now.items in
    let slots = c.args.slots.now.items in
    let p = place_of c.args.table.now c.args.key.now in
    let at = c.count_below-at.result in
    let le = c.count_below-at.ensures.within in
    let end = c.len.ensures in
    let inside : at < length order = grind (arith, c.if-at-len.false) in
    let long = length_in order slots c.requires.arranged.within in
    let lt : at < length (in_order order slots) = omega (arith, inside, long) in
    c.is_at.ensures
    ∙ taken_there row_place p (in_order order slots) at c.row_at.result.now c.count_below-at.ensures.rank lt c.row_at.ensures (place_order p (row_place c.row_at.result.now)) refl
