use Rattle.std.proofs.Common.{sym}
use Rattle.service_parts.specs.Parts.{kept}
use Rattle.service_requests.proofs.ServiceLemmas.{flight_may_end}
use Rattle.service_requests.proofs.calls.draft_answered.Goals as goal

pub follow_answer-requires : goal.follow_answer-requires
follow_answer-requires c =
    flight_may_end (kept c.args.parts.now) c.args.id c.in-Some.flight.now c.requires.fits c.requires.few (sym c.in-Some.ensures.found)
