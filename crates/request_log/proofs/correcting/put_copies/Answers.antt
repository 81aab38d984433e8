use Rattle.std.proofs.Common.{◌<◌, ◌≢◌, length, set, take, ap, ◌∙◌, arith, get_or-set_other}
use Rattle.std.proofs.Math.ListN.{length-set}
use Rattle.request_log.specs.Corrections.{given}
use Rattle.request_log.proofs.CorrectLemmas.{all_taken, given_more, length_given}
use Rattle.request_log.proofs.correcting.put_copies.Goals as goal

pub index_mut-requires : goal.index_mut-requires
index_mut-requires c =
    let n = ap length c.loop-place.invariant.given ∙ length_given (take c.loop-place.place c.args.copies.now.items) c.args.items.now.items in
    omega arith

pub index_mut-requires-in-loop-place : goal.index_mut-requires-in-loop-place
index_mut-requires-in-loop-place c =
    let n = c.loop-place.invariant.many in
    let same = c.requires in
    omega arith

pub loop-place-preserved : goal.loop-place-preserved
loop-place-preserved c =
    let gs = c.args.copies.now.items in
    let es = c.args.items.now.items in
    let place = c.loop-place.place in
    let xs = c.loop-place.items.items in
    let ys = c.loop-place.copies.items in
    let g = c.index_mut-in-loop-place.result.now in
    let e = c.index_mut.result.now in
    let many = c.loop-place.invariant.many in
    let same = c.requires in
    let lt : place < length gs = omega arith in
    record {
      given = ap (λ x. set xs place x) c.put_copy.ensures
          ∙ given_more gs es xs place g e lt (omega arith) (c.index_mut-in-loop-place.ensures.value ∙ c.loop-place.invariant.rest place g (omega arith)) c.loop-place.invariant.given c.index_mut.ensures.value;
      many = length-set ys place c.put_copy.new.copy ∙ many;
      rest = λ q d le. let other : q ≢ place = (λ is. omega arith) in get_or-set_other ys place q c.put_copy.new.copy d other ∙ c.loop-place.invariant.rest q d (omega arith);
    }

pub returns : goal.returns
returns c =
    let same = c.requires in
    all_taken c.args.copies.now.items c.args.items.now.items c.loop-place.items.items c.loop-place.place (omega arith) c.loop-place.invariant.given
