use Rattle.std.proofs.Common.{Some, ap, ◌∙◌}
use Rattle.std.proofs.lemmas.Result.{IfOk-weaker}
use Rattle.service_parts.specs.Drafts.{with_draft}
use Rattle.service_parts.specs.Parts.{kept}
use Rattle.service_requests.specs.Endings.{call_sent}
use Rattle.service_requests.proofs.completing.send_other.Goals as goal

pub returns-clause-ends : goal.returns-clause-ends
returns-clause-ends c =
    IfOk-weaker c.send.result _ _
    (λ ending h. h ∙ ap (call_sent (with_draft c.args.draft.now (kept c.args.parts.now)) c.args.flight (Some c.args.slot)) c.in_ok-copy.ensures)
    c.send.ensures.ends
