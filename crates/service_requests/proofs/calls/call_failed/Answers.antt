use Rattle.std.proofs.Common.{Ok, refl}
use Rattle.service_events.specs.State.{Kept}
use Rattle.service_events.specs.Arriving.{call_failed_event}
use Rattle.service_events.specs.declared.event.Event.TheVariants as events
use Rattle.service_parts.specs.Parts.{kept}
use Rattle.service_requests.specs.Changes.{leaves}
use Rattle.service_requests.proofs.ServiceLemmas.{outcome_service}
use Rattle.service_requests.proofs.calls.call_failed.Goals as goal

pub returns-clause-service : goal.returns-clause-service
returns-clause-service c =
    let s : Kept = kept c.args.parts.now in
    outcome_service c.args.parts.now c.apply.new.parts (events.CallFailed c.args.id c.args.number c.args.why) (Ok c.in_ok-arrived.arrived) (leaves s c.in_ok-outcome.outcome)
    (call_failed_event s c.args.id c.args.number c.args.why) c.in_ok-outcome.ensures.0 refl c.in_ok-arrived.ensures.ok tt c.apply.ensures.room c.requires
