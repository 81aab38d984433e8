use Rattle.std.proofs.Common.{length, ap, arith}
use Rattle.key_labels.proofs.SlotLemmas.{length_in}
use Rattle.key_labels.proofs.key_rows.KeyRows.rank.Goals as goal

pub returns-clause-within : goal.returns-clause-within
returns-clause-within c =
    let long = length_in c.self.inside.order.items c.self.inside.slots.items c.self.invariant.within in
    let seen = ap (λ v. length v.items) c.self.view_is in
    let le = c.rank_in.ensures.within.within in
    omega (arith, long, seen, le)
