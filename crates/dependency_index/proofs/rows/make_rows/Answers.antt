use Rattle.std.proofs.Common.{◌<◌, ◌∙◌, length, arith}
use Rattle.dependency_index.proofs.LoopLemmas.{spare_made}
use Rattle.dependency_index.proofs.rows.make_rows.Goals as goal

pub make_read-requires : goal.make_read-requires
make_read-requires c = c.loop-read.invariant.ordered

pub loop-read-preserved : goal.loop-read-preserved
loop-read-preserved c =
    let lt : c.loop-read.read-index < length c.args.reads.now = omega arith in
    record {
      ordered = c.make_read.ensures.ordered;
      each = λ kind t k. c.make_read.ensures.each kind t k ∙ c.loop-read.invariant.each kind t k;
      kept = λ kind t k. let a = c.make_read.ensures.kept kind t k in let b = c.loop-read.invariant.kept kind t k in omega arith;
      spare = spare_made c.args.spare c.loop-read.rows c.make_read.new.rows c.args.reads.now c.loop-read.read-index c.read-item.result lt c.read-item.is
          c.loop-read.invariant.spare c.make_read.ensures.kept c.in_ok-make_read.ensures.spare;
    }
