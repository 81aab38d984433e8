use Rattle.std.proofs.Common.{sym, ◌∙◌, arith}
use Rattle.key_labels.proofs.KeyRowLemmas.{slot_there}
use Rattle.key_labels.proofs.SlotLemmas.{length_in}
use Rattle.key_labels.proofs.key_rows.slot_in.Goals as goal

pub returns-then-taken : goal.returns-then-taken
returns-then-taken c =
    let inside = c.rank_near-at.ensures.within.there c.if-taken.true in
    slot_there c.requires.arranged c.requires.ordered (rw c.as_bytes.ensures at c.rank_near-at.ensures.rank) (sym (rw c.as_bytes.ensures at c.rank_near-at.ensures.taken) ∙ c.if-taken.true) inside
    c.at.ensures

pub returns-else-taken : goal.returns-else-taken
returns-else-taken c =
    let long = length_in c.args.order.now.items c.args.slots.now.items c.requires.arranged.within in
    let le = c.rank_near-at.ensures.within.within in
    record {
      within = omega (arith, long, le);
      rank = rw c.as_bytes.ensures at c.rank_near-at.ensures.rank;
      free = sym (rw c.as_bytes.ensures at c.rank_near-at.ensures.taken) ∙ c.if-taken.false;
    }
