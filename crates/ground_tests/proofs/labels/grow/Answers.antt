use Rattle.place_order.proofs.InsertLemmas.{put_there, still_there}
use Rattle.place_order.specs.Labels.{place_in}
use Rattle.ground_tests.proofs.labels.grow.Goals as goal

pub loop-turn-preserved : goal.loop-turn-preserved
loop-turn-preserved c =
    let is = c.in-Ok.ensures.ok.1 in
    let labels = c.loop-turn.order.labels in
    let at = place_in labels c.loop-turn.last in
    record {
      first = rw is (still_there labels at c.in-Ok.made c.args.first c.loop-turn.invariant.first);
      last = rw is (put_there labels at c.in-Ok.made);
    }
