use Rattle.std.proofs.Common.{sym, ap, ◌∙◌}
use Rattle.lang_tree.specs.HandedOn.{same_text, text_order}
use Rattle.lang_core.proofs.SeekLemmas.{in_one, in_two}
use Rattle.lang_core.proofs.place.order_of.Goals as goal

pub returns-then-is : goal.returns-then-is
returns-then-is g c =
    let item = g.T.Placed.place c.args.item.now in
    let table = c.args.table.now in
    let key = c.args.key.now in
    c.cmp.ensures ∙ ap (text_order key) (c.as_bytes.ensures ∙ c.key.ensures) ∙ in_one table item.table key item.key (c.is.ensures.is.0 c.if-is.true ∙ c.table.ensures)

pub returns : goal.returns
returns g c =
    let item = g.T.Placed.place c.args.item.now in
    let table = c.args.table.now in
    let key = c.args.key.now in
    let other = ap (same_text table) (sym c.table.ensures) ∙ sym c.is.ensures.test ∙ c.if-is.false in
    c.order.ensures ∙ ap (text_order table) c.table-2.ensures ∙ in_two table item.table key item.key other
