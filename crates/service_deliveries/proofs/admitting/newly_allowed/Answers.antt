use Rattle.std.proofs.Common.{Option, ap, find, option_map, sym, ◌∙◌}
use Rattle.request_log.specs.Folded.{as_entry, has_caller}
use Rattle.request_log.specs.declared.entry.Entry.{Entry}
use Rattle.service_events.specs.Messages.{take_decision}
use Rattle.service_parts.specs.Parts.{kept}
use Rattle.service_parts.proofs.WholeLemmas.{past_call_found}
use Rattle.service_deliveries.specs.TakeChanges.{allowance, unless_past_entry}
use Rattle.service_deliveries.proofs.admitting.newly_allowed.Goals as goal

pub returns-in-Some : goal.returns-in-Some
returns-in-Some c =
    let p = c.args.parts.now in
    let set = c.args.set.now in
    ap (λ (o : Option Entry). unless_past_entry o (allowance (take_decision (kept p) set)))
    (ap (option_map as_entry) (c.in-Some.ensures ∙ ap (find (has_caller set.caller set.number)) c.log.ensures.folded) ∙ sym (past_call_found p set.caller set.number))

pub returns-in-None : goal.returns-in-None
returns-in-None c =
    let p = c.args.parts.now in
    let set = c.args.set.now in
    c.allowance.ensures
    ∙ ap (λ (o : Option Entry). unless_past_entry o (allowance (take_decision (kept p) set)))
    (ap (option_map as_entry) (c.in-None.ensures ∙ ap (find (has_caller set.caller set.number)) c.log.ensures.folded) ∙ sym (past_call_found p set.caller set.number))
