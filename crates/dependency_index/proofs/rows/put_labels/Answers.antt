use Rattle.std.proofs.Common.{◌<◌, length, take, ap, arith}
use Rattle.std.specs.List.{list_any}
use Rattle.dependency_index.specs.Numbers.{with_number}
use Rattle.dependency_index.specs.Reads.{is_at}
use Rattle.dependency_index.specs.Rows.{labels_by}
use Rattle.dependency_index.proofs.LoopLemmas.{edit_more, edit_once, among}
use Rattle.dependency_index.proofs.NumberLemmas.{put_twice, rises_either}
use Rattle.dependency_index.proofs.rows.put_labels.Goals as goal

pub put_read-requires-clause-ordered : goal.put_read-requires-clause-ordered
put_read-requires-clause-ordered c = c.loop-read.invariant.ordered

pub put_read-requires-clause-rising : goal.put_read-requires-clause-rising
put_read-requires-clause-rising c =
    let r = c.read-item.result in
    rises_either c.args.label (list_any (is_at r.kind r.table r.key) (take c.loop-read.read-index c.args.reads.now)) (labels_by c.args.rows.now r.kind r.table r.key) (labels_by c.loop-read.rows r.kind r.table r.key)
    (c.requires.rising r.kind r.table r.key) (c.loop-read.invariant.each r.kind r.table r.key)

pub put_read-requires-clause-fits : goal.put_read-requires-clause-fits
put_read-requires-clause-fits c =
    let r = c.read-item.result in
    let lt : c.loop-read.read-index < length c.args.reads.now = omega arith in
    let same = edit_once (with_number c.args.label) (put_twice c.args.label) (list_any (is_at r.kind r.table r.key) (take c.loop-read.read-index c.args.reads.now)) (labels_by c.args.rows.now r.kind r.table r.key)
    (labels_by c.loop-read.rows r.kind r.table r.key) (c.loop-read.invariant.each r.kind r.table r.key) in
    let long = ap length same in
    let fits = c.requires.fits r.kind r.table r.key (among c.args.reads.now c.loop-read.read-index r lt c.read-item.is) in
    let places = c.loop-read.invariant.places r.kind r.table r.key in
    omega arith

pub loop-read-preserved : goal.loop-read-preserved
loop-read-preserved c =
    let lt : c.loop-read.read-index < length c.args.reads.now = omega arith in
    record {
      ordered = c.put_read.ensures.ordered;
      each = edit_more (with_number c.args.label) (put_twice c.args.label) is_at c.args.rows.now c.loop-read.rows c.put_read.new.rows
          c.args.reads.now c.loop-read.read-index c.read-item.result lt c.read-item.is c.loop-read.invariant.each c.put_read.ensures.each;
      places = λ kind t k. let a = c.put_read.ensures.places kind t k in let b = c.loop-read.invariant.places kind t k in omega arith;
    }
