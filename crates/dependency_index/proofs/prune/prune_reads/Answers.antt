use Rattle.std.proofs.Common.{◌<◌, length, take, arith}
use Rattle.std.specs.List.{list_any}
use Rattle.key_labels.specs.Labels.{behind}
use Rattle.dependency_index.specs.Reads.{is_at}
use Rattle.dependency_index.specs.Rows.{labels_by}
use Rattle.dependency_index.proofs.LoopLemmas.{edit_more, among}
use Rattle.dependency_index.proofs.PruneLemmas.{behind_twice, prunable_still}
use Rattle.dependency_index.proofs.prune.prune_reads.Goals as goal

pub prune_read-requires-clause-ordered : goal.prune_read-requires-clause-ordered
prune_read-requires-clause-ordered c = c.loop-read.invariant.ordered

pub prune_read-requires-clause-prunable : goal.prune_read-requires-clause-prunable
prune_read-requires-clause-prunable c =
    let r = c.read-item.result in
    let lt : c.loop-read.read-index < length c.args.reads.now = omega arith in
    prunable_still c.args.order.now.labels c.args.end c.args.label (list_any (is_at r.kind r.table r.key) (take c.loop-read.read-index c.args.reads.now))
    (labels_by c.args.rows.now r.kind r.table r.key) (labels_by c.loop-read.rows r.kind r.table r.key) (c.loop-read.invariant.each r.kind r.table r.key)
    (c.requires.prunable r.kind r.table r.key (among c.args.reads.now c.loop-read.read-index r lt c.read-item.is))

pub loop-read-preserved : goal.loop-read-preserved
loop-read-preserved c =
    let lt : c.loop-read.read-index < length c.args.reads.now = omega arith in
    let order = c.args.order.now.labels in
    record {
      ordered = c.prune_read.ensures.ordered;
      each = edit_more (behind order c.args.end) (behind_twice order c.args.end) is_at c.args.rows.now c.loop-read.rows c.prune_read.new.rows
          c.args.reads.now c.loop-read.read-index c.read-item.result lt c.read-item.is c.loop-read.invariant.each c.prune_read.ensures.each;
      spare = λ kind t k. let a = c.prune_read.ensures.spare kind t k in let b = c.loop-read.invariant.spare kind t k in omega arith;
    }
