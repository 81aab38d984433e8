use Rattle.std.proofs.Common.{◌<◌, ℕ, List, length, sym, subst, arith}
use Rattle.place_order.specs.Rising.{IsRising}
use Rattle.key_labels.specs.Labels.{with_label}
use Rattle.versioned_rows.proofs.WriteLemmas.{unedited, edit_more, spare_less, spare_left}
use Rattle.key_labels.proofs.EditLemmas.{keeps_both}
use Rattle.versioned_rows.proofs.rows.put_labels.Goals as goal

pub put_label-requires-clause-spare : goal.put_label-requires-clause-spare
put_label-requires-clause-spare c =
    let lt : c.loop-write.write-index < length c.args.writes.now = omega arith in
    spare_left c.args.rows.now.items c.loop-write.rows.items c.loop-write.rows.items c.args.writes.now c.loop-write.write-index c.write-item.result lt c.write-item.is
    c.requires.writes c.requires.spare c.loop-write.invariant.spare

pub put_label-requires-clause-rising : goal.put_label-requires-clause-rising
put_label-requires-clause-rising c =
    let w = c.write-item.result in
    let lt : c.loop-write.write-index < length c.args.writes.now = omega arith in
    let P : List ℕ → Type 0 = λ l. IsRising c.args.order.now.labels l in
    subst P (sym (unedited (with_label c.args.order.now.labels c.args.label) c.args.rows.now.items c.loop-write.rows.items c.loop-write.rows.items c.args.writes.now c.loop-write.write-index w c.requires.writes lt c.write-item.is c.loop-write.invariant.each))
    (c.requires.rising w.table w.key)

pub loop-write-preserved : goal.loop-write-preserved
loop-write-preserved c =
    let w = c.write-item.result in
    let i = c.loop-write.write-index in
    let ws = c.args.writes.now in
    let lt : i < length ws = omega arith in
    record {
      ordered = c.put_label.ensures.ordered;
      each = edit_more (with_label c.args.order.now.labels c.args.label) c.args.rows.now.items c.loop-write.rows.items c.put_label.new.rows.items ws i w c.requires.writes lt c.write-item.is c.loop-write.invariant.each c.put_label.ensures.edited;
      spare = spare_less c.args.rows.now.items c.loop-write.rows.items c.put_label.new.rows.items ws i w lt c.write-item.is c.requires.writes c.loop-write.invariant.spare c.put_label.ensures.spare;
      rows = keeps_both c.args.rows.now.items c.loop-write.rows.items c.put_label.new.rows.items c.loop-write.invariant.rows c.put_label.ensures.rows;
    }
