use Rattle.std.proofs.Common.{length, ap, arith}
use Rattle.key_labels.proofs.SlotLemmas.{length_in}
use Rattle.key_labels.proofs.key_rows.KeyRows.at.Goals as goal

pub row_at-requires-clause-place : goal.row_at-requires-clause-place
row_at-requires-clause-place c =
    let long = length_in c.self.inside.order.items c.self.inside.slots.items c.self.invariant.within in
    let seen = ap (λ v. length v.items) c.self.view_is in
    let lt = c.requires in
    omega (arith, long, seen, lt)
