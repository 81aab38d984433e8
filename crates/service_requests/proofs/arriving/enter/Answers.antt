use Rattle.std.proofs.Common.{◌∙◌, ap, refl}
use Rattle.std.proofs.lemmas.Result.{IfOk-weaker}
use Rattle.service_events.specs.State.{Kept}
use Rattle.service_events.specs.Arriving.{accepted, arrive_event, new_flight}
use Rattle.service_events.specs.declared.event.Event.TheVariants as events
use Rattle.service_events.specs.declared.refusals.ArriveRefused.{ArriveRefused}
use Rattle.service_parts.specs.Drafts.{with_draft}
use Rattle.service_parts.specs.Parts.{kept}
use Rattle.service_requests.specs.Changes.{leaves}
use Rattle.service_requests.proofs.ArrivalLemmas.{arrive_runs}
use Rattle.service_requests.proofs.ServiceLemmas.{new_may_end, same_may_end, follows_same, outcome_service}
use Rattle.service_requests.proofs.arriving.enter.Goals as goal

pub follow-requires : goal.follow-requires
follow-requires c =
    same_may_end (kept c.args.parts.now) c.in_ok-flight.flight (new_flight (kept c.args.parts.now) c.args.origin c.args.request c.args.inputs) c.in_ok-flight.ensures
    (new_may_end (kept c.args.parts.now) c.args.origin c.args.request c.args.inputs c.requires.service.fits c.requires.runs)

pub returns-clause-ok : goal.returns-clause-ok
returns-clause-ok c =
    let s : Kept = kept c.args.parts.now in
    let left = follows_same (with_draft c.start.result s) s c.in_ok-flight.flight (new_flight s c.args.origin c.args.request c.args.inputs) (leaves s c.in_ok-outcome.outcome)
    c.in_ok-outcome.ensures.follows (c.start.ensures s) c.in_ok-flight.ensures in
    IfOk-weaker c.apply.result _ _
    (λ arrived h. ap (accepted {E = ArriveRefused}) (h ∙ left) ∙ arrive_runs s c.args.request c.args.inputs c.args.origin c.requires.runs)
    c.apply.ensures.ok

pub returns-clause-service : goal.returns-clause-service
returns-clause-service c =
    let s : Kept = kept c.args.parts.now in
    let left = follows_same (with_draft c.start.result s) s c.in_ok-flight.flight (new_flight s c.args.origin c.args.request c.args.inputs) (leaves s c.in_ok-outcome.outcome)
    c.in_ok-outcome.ensures.follows (c.start.ensures s) c.in_ok-flight.ensures in
    outcome_service c.args.parts.now c.apply.new.parts (events.Arrive c.args.origin c.args.request c.args.inputs) c.apply.result (leaves s c.in_ok-outcome.outcome)
    (arrive_event s c.args.origin c.args.request c.args.inputs)
    (ap (accepted {E = ArriveRefused}) left ∙ arrive_runs s c.args.request c.args.inputs c.args.origin c.requires.runs) refl
    c.apply.ensures.ok c.apply.ensures.err c.apply.ensures.room c.requires.service
