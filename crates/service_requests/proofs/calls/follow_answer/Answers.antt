use Rattle.std.proofs.lemmas.Result.{IfOk-weaker}
use Rattle.service_events.specs.State.{Kept}
use Rattle.service_events.specs.Arriving.{live_answer_rows}
use Rattle.service_events.specs.Calls.{noted}
use Rattle.service_parts.specs.Drafts.{with_draft}
use Rattle.service_parts.specs.Parts.{kept}
use Rattle.service_requests.specs.Changes.{leaves}
use Rattle.service_requests.proofs.ServiceLemmas.{same_may_end, follows_same}
use Rattle.service_requests.proofs.calls.follow_answer.Goals as goal

pub follow-requires : goal.follow-requires
follow-requires c = same_may_end (kept c.args.parts.now) c.in_ok-own.own c.args.flight.now c.in_ok-own.ensures c.requires

pub returns-clause-follows : goal.returns-clause-follows
returns-clause-follows c =
    let s : Kept = kept c.args.parts.now in
    IfOk-weaker c.follow.result _ _
    (λ outcome h. follows_same (with_draft c.in_ok-draft.draft s) (noted (live_answer_rows s c.args.answer.now) s) c.in_ok-own.own c.args.flight.now (leaves s outcome) h c.in_ok-draft.ensures c.in_ok-own.ensures)
    c.follow.ensures.follows
