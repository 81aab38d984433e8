use Rattle.std.proofs.Common.{◌<◌, length, filter, arith}
use Rattle.key_labels.specs.Labels.{is_other}
use Rattle.versioned_rows.proofs.WriteLemmas.{edit_more}
use Rattle.key_labels.proofs.EditLemmas.{keeps_both}
use Rattle.versioned_rows.proofs.rows.drop_labels.Goals as goal

pub loop-write-preserved : goal.loop-write-preserved
loop-write-preserved c =
    let lt : c.loop-write.write-index < length c.args.writes.now = omega arith in
    record {
      ordered = c.drop_label.ensures.ordered;
      each = edit_more (filter (is_other c.args.label)) c.args.rows.now.items c.loop-write.rows.items c.drop_label.new.rows.items c.args.writes.now c.loop-write.write-index c.write-item.result c.requires.writes lt c.write-item.is c.loop-write.invariant.each c.drop_label.ensures.edited;
      spare = λ t k. let a = c.drop_label.ensures.spare t k in let b = c.loop-write.invariant.spare t k in omega arith;
      rows = keeps_both c.args.rows.now.items c.loop-write.rows.items c.drop_label.new.rows.items c.loop-write.invariant.rows c.drop_label.ensures.rows;
    }
