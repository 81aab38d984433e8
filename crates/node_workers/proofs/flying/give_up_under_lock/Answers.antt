use Rattle.node_workers.proofs.FlightLemmas.{given_up, given_up_by}
use Rattle.node_workers.proofs.flying.give_up_under_lock.Goals as goal

pub returns : goal.returns
returns g c =
    let flight = c.args.flight in
    let before = c.args.pass.now in
    let now = c.event.new.pass in
    let kept = c.args.kept.now in
    let left = c.event.new.kept in
    let made = c.event.ensures in
    let up = given_up kept.service left.service kept.secret flight before.notes now.notes before.receipts.items now.receipts.items c.event.result
    made.done made.notes made.receipts made.memory in
    record {
      up = up.0;
      receipts = up.1;
      made = given_up_by kept.service left.service kept.secret flight before.notes now.notes before.receipts.items now.receipts.items c.event.result c.fits.ensures
          made.done made.notes made.receipts made.memory;
    }
