use Rattle.std.proofs.Common.{◌≡◌, ◌∙◌, sym, ap, subst, find}
use Rattle.std.specs.Option.{option_copied}
use Rattle.request_log.specs.Folded.{has_caller}
use Rattle.service_events.specs.Doing.{arrive_memory}
use Rattle.service_requests.specs.Arrivals.{Early, Says, early}
use Rattle.service_requests.proofs.ArrivalLemmas.{later_answers, past_answers}
use Rattle.service_requests.proofs.early.by_entry.Goals as goal

pub returns-in-Some : goal.returns-in-Some
returns-in-Some c =
    subst (λ (e : Early). Says arrive_memory c.by_past.result (early c.by_past.result ≡ e))
    (past_answers c.args.parts.now c.args.caller.now c.args.number c.in-Some.past.now
    (ap (find (has_caller c.args.caller.now c.args.number)) (sym c.log.ensures.folded) ∙ sym c.folded_origin.ensures ∙ ap option_copied c.in-Some.is))
    c.by_past.ensures

pub returns-in-None : goal.returns-in-None
returns-in-None c =
    subst (λ (e : Early). Says arrive_memory c.by_present.result (early c.by_present.result ≡ e))
    (later_answers c.args.parts.now c.args.caller.now c.args.number
    (ap (find (has_caller c.args.caller.now c.args.number)) (sym c.log.ensures.folded) ∙ sym c.folded_origin.ensures ∙ ap option_copied c.in-None.is))
    c.by_present.ensures
