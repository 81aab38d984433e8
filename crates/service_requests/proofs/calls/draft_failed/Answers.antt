use Rattle.std.proofs.Common.{◌≡◌, ◌∙◌, sym, ap, arith}
use Rattle.service_events.specs.Arriving.{accepted}
use Rattle.service_events.specs.Flying.{awaited}
use Rattle.service_events.specs.declared.refusals.CallRefused.{CallRefused}
use Rattle.service_parts.specs.Parts.{kept}
use Rattle.service_requests.proofs.CallLemmas.{failed_is}
use Rattle.service_requests.proofs.ServiceLemmas.{flight_may_end}
use Rattle.service_requests.proofs.calls.draft_failed.Goals as goal

pub follow_failure-requires : goal.follow_failure-requires
follow_failure-requires c =
    flight_may_end (kept c.args.parts.now) c.args.id c.in-Some.flight.now c.requires.fits c.requires.few (sym c.in-Some.ensures.found)

pub returns : goal.returns
returns c =
    let same : awaited c.in-Some.flight.now ≡ c.args.number = omega arith in (
      ap (accepted {E = CallRefused}) c.in_ok-outcome.ensures.follows
          ∙ failed_is (kept c.args.parts.now) c.args.id c.args.number c.args.why c.in-Some.flight.now (sym c.in-Some.ensures.found) same,
      c.in_ok-outcome.ensures.can,
    )
