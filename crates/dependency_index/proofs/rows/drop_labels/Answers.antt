use Rattle.std.proofs.Common.{◌<◌, length, arith}
use Rattle.std.specs.List.{filter}
use Rattle.key_labels.specs.Labels.{is_other}
use Rattle.dependency_index.specs.Reads.{is_at}
use Rattle.dependency_index.proofs.LoopLemmas.{edit_more}
use Rattle.dependency_index.proofs.NumberLemmas.{absorb}
use Rattle.dependency_index.proofs.rows.drop_labels.Goals as goal

pub drop_read-requires : goal.drop_read-requires
drop_read-requires c = c.loop-read.invariant.ordered

pub loop-read-preserved : goal.loop-read-preserved
loop-read-preserved c =
    let lt : c.loop-read.read-index < length c.args.reads.now = omega arith in
    record {
      ordered = c.drop_read.ensures.ordered;
      each = edit_more (filter (is_other c.args.label)) (absorb (is_other c.args.label) (is_other c.args.label) (λ x h. h)) is_at c.args.rows.now c.loop-read.rows c.drop_read.new.rows
          c.args.reads.now c.loop-read.read-index c.read-item.result lt c.read-item.is c.loop-read.invariant.each c.drop_read.ensures.each;
      spare = λ kind t k. let a = c.drop_read.ensures.spare kind t k in let b = c.loop-read.invariant.spare kind t k in omega arith;
    }
