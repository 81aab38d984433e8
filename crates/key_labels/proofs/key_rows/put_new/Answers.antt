use Rattle.std.proofs.Common.{ℕ, ◌≡◌, ◌+◌, ◌∷◌, [], List, length, sym, ap, ◌∙◌, subst}
use Rattle.std.specs.List.{insert}
use Rattle.std.proofs.lemmas.List.{length-append}
use Rattle.key_labels.specs.KeyRows.{in_order, IsArranged}
use Rattle.key_labels.proofs.SlotLemmas.{insert_in, arranged_more}
use Rattle.key_labels.proofs.key_rows.put_new.Goals as goal

pub returns-clause-arranged : goal.returns-clause-arranged
returns-clause-arranged c =
    let order = c.args.order.now.items in
    let slots = c.args.slots.now.items in
    let now : c.insert.new.self.items ≡ insert order c.args.at (length slots) = c.in_ok-insert.ensures.ok ∙ ap (insert order c.args.at) c.requires.number in
    let long : length c.push_reserved.new.self.items ≡ length slots + 1 = ap length c.push_reserved.ensures.items ∙ length-append slots (c.args.row ∷ []) in
    let P : ℕ → Type 0 = λ n. IsArranged n c.insert.new.self.items in
    let Q : List ℕ → Type 0 = λ l. IsArranged (length slots + 1) l in
    subst P (sym long) (subst Q (sym now) (arranged_more (length slots) order c.args.at c.requires.within c.requires.arranged))

pub returns-clause-ok : goal.returns-clause-ok
returns-clause-ok c =
    let order = c.args.order.now.items in
    let slots = c.args.slots.now.items in
    let now : c.insert.new.self.items ≡ insert order c.args.at (length slots) = c.in_ok-insert.ensures.ok ∙ ap (insert order c.args.at) c.requires.number in
    ap (λ l. in_order l c.push_reserved.new.self.items) now ∙ ap (in_order (insert order c.args.at (length slots))) c.push_reserved.ensures.items
    ∙ insert_in order slots c.args.at c.args.row c.requires.arranged.within
