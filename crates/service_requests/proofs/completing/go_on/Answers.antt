use Rattle.std.proofs.Common.{◌∙◌, sym}
use Rattle.std.proofs.lemmas.Result.{IfOk-weaker}
use Rattle.flights.specs.declared.flight.Move.TheVariants.{Commit, Name, Change}
use Rattle.service_parts.specs.Drafts.{with_draft}
use Rattle.service_parts.specs.Parts.{kept}
use Rattle.service_requests.proofs.EndLemmas.{goes_is}
use Rattle.service_requests.proofs.completing.go_on.Goals as goal

pub returns-in-Commit-clause-ends : goal.returns-in-Commit-clause-ends
returns-in-Commit-clause-ends c =
    IfOk-weaker c.ended.result _ _
    (λ ending h. h ∙ goes_is (with_draft c.args.draft.now (kept c.args.parts.now)) c.args.flight c.in_ok-ran.ran Commit c.in_ok-ran.ensures (sym c.in-Commit.is ∙ c.advance.ensures))
    c.ended.ensures.ends

pub returns-in-Name-clause-ends : goal.returns-in-Name-clause-ends
returns-in-Name-clause-ends c =
    IfOk-weaker c.call_on.result _ _
    (λ ending h. h ∙ goes_is (with_draft c.args.draft.now (kept c.args.parts.now)) c.args.flight c.in_ok-ran.ran Name c.in_ok-ran.ensures (sym c.in-Name.is ∙ c.advance.ensures))
    c.call_on.ensures.ends

pub returns-in-Change-clause-ends : goal.returns-in-Change-clause-ends
returns-in-Change-clause-ends c =
    IfOk-weaker c.change_on.result _ _
    (λ ending h. h ∙ goes_is (with_draft c.args.draft.now (kept c.args.parts.now)) c.args.flight c.in_ok-ran.ran (Change c.in-Change.slot) c.in_ok-ran.ensures (sym c.in-Change.is ∙ c.advance.ensures))
    c.change_on.ensures.ends
