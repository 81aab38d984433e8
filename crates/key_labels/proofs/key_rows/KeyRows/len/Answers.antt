use Rattle.std.proofs.Common.{length, sym, ap, ◌∙◌}
use Rattle.key_labels.proofs.SlotLemmas.{length_in}
use Rattle.key_labels.proofs.key_rows.KeyRows.len.Goals as goal

pub returns : goal.returns
returns c =
    c.len.ensures ∙ sym (length_in c.self.inside.order.items c.self.inside.slots.items c.self.invariant.within) ∙ ap (λ v. length v.items) c.self.view_is
