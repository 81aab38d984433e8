use Rattle.std.proofs.Common.{ap, nat_eq, sym, ◌∙◌}
use Rattle.std.specs.List.{list_any}
use Rattle.request_log.specs.declared.folded.Folded.{Folded}
use Rattle.service_parts.proofs.WholeLemmas.{past_call_is}
use Rattle.service_deliveries.proofs.hearing.is_past_call.Goals as goal

pub returns : goal.returns
returns c =
    c.has_slot.ensures
    ∙ ap (list_any (λ (f : Folded). list_any (nat_eq c.args.number) f.slots)) (c.folded.ensures ∙ c.log.ensures.folded)
    ∙ sym (past_call_is c.args.parts.now c.args.number)
