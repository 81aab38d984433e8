use Rattle.std.proofs.Common.{◌∙◌}
use Rattle.std.proofs.lemmas.Result.{IfOk-weaker}
use Rattle.service_parts.specs.Drafts.{with_draft}
use Rattle.service_parts.specs.Parts.{kept}
use Rattle.service_requests.proofs.EndLemmas.{step_ends, step_goes}
use Rattle.service_requests.proofs.completing.+complete.Goals as goal

pub returns-in-Ends-clause-ends : goal.returns-in-Ends-clause-ends
returns-in-Ends-clause-ends t c =
    step_ends (with_draft c.args.draft.now (kept c.args.parts.now)) (with_draft c.next_step.new.draft (kept c.args.parts.now)) c.args.flight c.in_ok-ran.ran c.args.runs c.in_ok-ending.field-0 c.in-Ends.ending c.in-Ends.is c.if-runs-eq0.false c.in_ok-ran.ensures c.in_ok-ending.ensures.step

pub returns-in-Goes-clause-ends : goal.returns-in-Goes-clause-ends
returns-in-Goes-clause-ends t c =
    IfOk-weaker c.complete.result _ _
    (λ ending h. h ∙ step_goes (with_draft c.args.draft.now (kept c.args.parts.now)) (with_draft c.next_step.new.draft (kept c.args.parts.now)) c.args.flight c.in-Goes.next c.in_ok-ran.ran c.args.runs c.in_ok-ending.field-0 c.in-Goes.is c.if-runs-eq0.false c.in_ok-ran.ensures c.in_ok-ending.ensures.step)
    c.complete.ensures.ends
