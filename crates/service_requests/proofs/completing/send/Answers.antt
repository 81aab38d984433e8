use Rattle.std.proofs.lemmas.Result.{IfOk-weaker}
use Rattle.service_events.specs.Flying.{live_call}
use Rattle.service_parts.specs.Drafts.{with_draft}
use Rattle.service_parts.specs.Parts.{kept}
use Rattle.service_requests.proofs.EndLemmas.{send_is, can_wait, next_may_end}
use Rattle.service_requests.proofs.completing.send.Goals as goal

pub returns-clause-ends : goal.returns-clause-ends
returns-clause-ends c =
    IfOk-weaker c.wait.result _ _
    (λ e is. send_is (kept c.args.parts.now) c.args.draft.now c.name.new.draft c.args.flight c.name.new.flight c.args.slot c.in_ok-number.number c.args.call e is
    c.in_ok-number.ensures.draft c.in_ok-number.ensures.flight c.in_ok-number.ensures.number)
    c.wait.ensures

pub returns-clause-can : goal.returns-clause-can
returns-clause-can c =
    IfOk-weaker c.wait.result _ _
    (λ e is. can_wait (kept c.args.parts.now) c.name.new.flight (live_call (kept c.args.parts.now) c.in_ok-number.number c.args.call) e is
    (next_may_end (kept c.args.parts.now) (with_draft c.args.draft.now (kept c.args.parts.now)) c.args.flight c.name.new.flight c.args.slot c.args.call c.in_ok-number.ensures.flight c.requires))
    c.wait.ensures
