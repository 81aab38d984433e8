use Rattle.std.proofs.Common.{◌<◌, ℕ, List, length, get_or, drop, sym, ap, ◌∙◌, subst, arith}
use Rattle.std.proofs.lemmas.List.{drop-drop}
use Rattle.place_order.specs.Rising.{IsRising}
use Rattle.key_labels.specs.Labels.{behind}
use Rattle.key_labels.specs.Rows.{base_in}
use Rattle.versioned_rows.proofs.WriteLemmas.{edit_more, text_first, text_more, unedited, written_at}
use Rattle.versioned_rows.proofs.rows.settle_writes.Goals as goal

pub settle_row-requires-clause-there : goal.settle_row-requires-clause-there
settle_row-requires-clause-there c =
    let w = c.write-item.result in
    let lt : c.loop-write.write-index < length c.args.writes.now = omega arith in
    c.loop-write.invariant.keys w.table w.key (c.requires.there w.table w.key (written_at c.args.writes.now c.loop-write.write-index w lt c.write-item.is))

pub settle_row-requires-clause-rising : goal.settle_row-requires-clause-rising
settle_row-requires-clause-rising c =
    let w = c.write-item.result in
    let lt : c.loop-write.write-index < length c.args.writes.now = omega arith in
    let P : List ℕ → Type 0 = λ l. IsRising c.args.order.now.labels l in
    subst P (sym (unedited (behind c.args.order.now.labels c.args.end) c.args.rows.now.items c.loop-write.rows.items c.loop-write.rows.items c.args.writes.now c.loop-write.write-index w c.requires.writes lt c.write-item.is c.loop-write.invariant.each))
    (c.requires.rising w.table w.key)

pub loop-write-preserved : goal.loop-write-preserved
loop-write-preserved c =
    let ws = c.args.writes.now in
    let w = c.write-item.result in
    let i = c.loop-write.write-index in
    let lt : i < length ws = omega arith in
    let texts = c.args.texts.now.items in
    let first = text_first ws texts i w lt c.write-item.is c.requires.texts in
    let text = c.next_text-text.ensures.text w.text (let long = ap length c.loop-write.invariant.texts in let more = first.0 in omega (arith, long, more))
    (ap (λ l. get_or l 0 w.text) c.loop-write.invariant.texts ∙ first.1 w.text) in
    record {
      ordered = c.settle_row.ensures.ordered;
      each = edit_more (behind c.args.order.now.labels c.args.end) c.args.rows.now.items c.loop-write.rows.items c.settle_row.new.rows.items ws i w c.requires.writes lt c.write-item.is c.loop-write.invariant.each c.settle_row.ensures.edited;
      bases = λ t k. text_more ws i w t k (base_in c.args.rows.now.items t k) (base_in c.loop-write.rows.items t k) (base_in c.settle_row.new.rows.items t k) c.next_text-text.result c.requires.writes lt c.write-item.is text
          (c.loop-write.invariant.bases t k) (c.settle_row.ensures.based t k);
      spare = λ t k. let a = c.settle_row.ensures.spare t k in let b = c.loop-write.invariant.spare t k in omega arith;
      keys = λ t k h. c.settle_row.ensures.keys t k (c.loop-write.invariant.keys t k h);
      texts = c.next_text-text.ensures.rest ∙ ap (drop 1) c.loop-write.invariant.texts ∙ drop-drop 1 i texts;
    }
