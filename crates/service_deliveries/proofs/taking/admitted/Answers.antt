use Rattle.service_events.specs.Messages.{take_event}
use Rattle.service_parts.specs.Parts.{kept}
use Rattle.service_deliveries.proofs.TakeLemmas.{put_is, take_service}
use Rattle.service_deliveries.proofs.taking.admitted.Goals as goal

pub returns-clause-ok : goal.returns-clause-ok
returns-clause-ok c =
    let s = kept c.args.parts.now in
    put_is s (kept c.put.new.parts) c.in_ok-taking.taking c.put.result (take_event s c.args.set.now c.args.inputs) c.in_ok-taking.ensures c.put.ensures.ok c.put.ensures.taken

pub returns-clause-service : goal.returns-clause-service
returns-clause-service c =
    let p = c.args.parts.now in
    take_service p c.put.new.parts c.args.set.now c.args.inputs c.put.result c.requires.service
    (put_is (kept p) (kept c.put.new.parts) c.in_ok-taking.taking c.put.result (take_event (kept p) c.args.set.now c.args.inputs) c.in_ok-taking.ensures c.put.ensures.ok c.put.ensures.taken)
    c.put.ensures.err c.put.ensures.room
