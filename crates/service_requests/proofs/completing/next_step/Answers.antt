use Rattle.service_parts.specs.Drafts.{with_draft}
use Rattle.service_parts.specs.Parts.{kept}
use Rattle.service_requests.proofs.EndLemmas.{step_commits, step_calls, next_may_end}
use Rattle.service_requests.proofs.completing.next_step.Goals as goal

pub returns-in_ok-ending-in-None-clause-step : goal.returns-in_ok-ending-in-None-clause-step
returns-in_ok-ending-in-None-clause-step c =
    step_commits (with_draft c.args.draft.now (kept c.args.parts.now)) (with_draft c.ended.new.draft (kept c.args.parts.now)) c.args.flight c.args.ran c.advance-next.result c.in_ok-ending-in-None.ending
    c.advance-next.ensures c.in-None.ensures c.in_ok-ending-in-None.ensures.ends

pub returns-in_ok-name_unsent-in-Some-clause-step : goal.returns-in_ok-name_unsent-in-Some-clause-step
returns-in_ok-name_unsent-in-Some-clause-step c =
    step_calls (with_draft c.args.draft.now (kept c.args.parts.now)) (with_draft c.name_unsent.new.draft (kept c.args.parts.now)) c.args.flight c.name_unsent.new.flight c.args.ran c.advance-next.result c.slot_of.result c.in-Some.call.now
    c.advance-next.ensures c.slot_of.ensures c.in-Some.ensures c.in_ok-name_unsent-in-Some.ensures.draft c.in_ok-name_unsent-in-Some.ensures.flight

pub returns-in_ok-name_unsent-in-Some-clause-can : goal.returns-in_ok-name_unsent-in-Some-clause-can
returns-in_ok-name_unsent-in-Some-clause-can c =
    next_may_end (kept c.args.parts.now) (with_draft c.args.draft.now (kept c.args.parts.now)) c.args.flight c.name_unsent.new.flight c.slot_of.result c.in-Some.call.now
    c.in_ok-name_unsent-in-Some.ensures.flight c.requires
