use Rattle.std.proofs.Common.{ℕ, ◌∙◌, ap}
use Rattle.std.proofs.lemmas.Result.{on_ok_weaker}
use Rattle.call_registers.specs.declared.register.Why.TheVariants.{Changes}
use Rattle.service_events.specs.Arriving.{told}
use Rattle.service_parts.specs.Drafts.{with_draft}
use Rattle.service_parts.specs.Parts.{kept}
use Rattle.service_requests.specs.Endings.{named_service}
use Rattle.service_requests.proofs.completing.name_unsent.Goals as goal

pub returns-clause-draft : goal.returns-clause-draft
returns-clause-draft c =
    on_ok_weaker c.tell.result
    (λ h. h ∙ ap (told c.in_ok-number.number Changes) c.in_ok-number.ensures.draft
    ∙ ap (λ (n : ℕ). told n Changes (named_service (with_draft c.args.draft.now (kept c.args.parts.now)) c.args.flight.now c.args.slot c.args.call.now)) c.in_ok-number.ensures.number)
    c.tell.ensures
