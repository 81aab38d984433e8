use Rattle.std.proofs.Common.{◌<◌, ℕ, length, get_or, sym, ap, ◌∙◌, subst, arith}
use Rattle.key_labels.proofs.SlotLemmas.{all_at, read_in}
use Rattle.key_labels.proofs.key_rows.row_at.Goals as goal

pub index-requires : goal.index-requires
index-requires c =
    let order = c.args.order.now.items in
    let slots = c.args.slots.now.items in
    let P : ℕ → Type 0 = λ n. n < length slots in
    let lt = subst P (sym c.at.ensures) (all_at P order c.args.place 0 c.requires.arranged.within c.requires.place) in
    let ok = c.args.slots.now.ok.0 in
    omega (arith, lt, ok)

pub returns : goal.returns
returns c =
    let order = c.args.order.now.items in
    let slots = c.args.slots.now.items in
    let row = c.index.result.now in
    c.index.ensures ∙ ap (λ n. get_or slots n row) c.at.ensures ∙ sym (read_in order slots c.args.place row c.requires.arranged.within c.requires.place)
