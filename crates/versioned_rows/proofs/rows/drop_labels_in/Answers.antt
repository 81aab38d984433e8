use Rattle.std.proofs.Common.{◌<◌, ℕ, List, length, filter, sym, subst, arith}
use Rattle.place_order.specs.Rising.{IsRising}
use Rattle.key_labels.specs.Labels.{is_other}
use Rattle.versioned_rows.proofs.WriteLemmas.{edit_more, unedited}
use Rattle.key_labels.proofs.EditLemmas.{keeps_both}
use Rattle.versioned_rows.proofs.rows.drop_labels_in.Goals as goal

pub drop_label_in-requires-clause-rising : goal.drop_label_in-requires-clause-rising
drop_label_in-requires-clause-rising c =
    let w = c.write-item.result in
    let lt : c.loop-write.write-index < length c.args.writes.now = omega arith in
    let P : List ℕ → Type 0 = λ l. IsRising c.args.order.now.labels l in
    subst P (sym (unedited (filter (is_other c.args.label)) c.args.rows.now.items c.loop-write.rows.items c.loop-write.rows.items c.args.writes.now c.loop-write.write-index w c.requires.writes lt c.write-item.is c.loop-write.invariant.each))
    (c.requires.rising w.table w.key)

pub loop-write-preserved : goal.loop-write-preserved
loop-write-preserved c =
    let lt : c.loop-write.write-index < length c.args.writes.now = omega arith in
    record {
      ordered = c.drop_label_in.ensures.ordered;
      each = edit_more (filter (is_other c.args.label)) c.args.rows.now.items c.loop-write.rows.items c.drop_label_in.new.rows.items c.args.writes.now c.loop-write.write-index c.write-item.result c.requires.writes lt c.write-item.is c.loop-write.invariant.each c.drop_label_in.ensures.edited;
      spare = λ t k. let a = c.drop_label_in.ensures.spare t k in let b = c.loop-write.invariant.spare t k in omega arith;
      rows = keeps_both c.args.rows.now.items c.loop-write.rows.items c.drop_label_in.new.rows.items c.loop-write.invariant.rows c.drop_label_in.ensures.rows;
    }
