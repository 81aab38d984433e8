use Rattle.std.proofs.Common.{◌∙◌, sym, ap, find, Some, Ok}
use Rattle.std.proofs.lemmas.Result.{IfOk-weaker}
use Rattle.request_log.specs.Entries.{has_origin}
use Rattle.service_events.specs.State.{after}
use Rattle.service_events.specs.Messages.{take_rule, taken, taken_by}
use Rattle.service_events.proofs.HorizonLemmas.{found_past}
use Rattle.service_parts.specs.Parts.{kept}
use Rattle.service_parts.proofs.WholeLemmas.{unfolded_kept}
use Rattle.service_deliveries.proofs.TakeLemmas.{can_amend, leaves_same}
use Rattle.service_deliveries.proofs.take_drafts.newer.Goals as goal

pub amended-requires-clause-can : goal.amended-requires-clause-can
amended-requires-clause-can c =
    let set = c.args.set.now in
    let p = has_origin set.caller set.number in
    let found = c.in-Some.ensures ∙ ap (find p) c.log.ensures.entries ∙ ap (find p) (sym (unfolded_kept c.args.parts.now)) in
    can_amend (kept c.args.parts.now) set c.in-Some.entry.now 0 c.requires.fits c.requires.recent (sym found)

pub returns-in-Some : goal.returns-in-Some
returns-in-Some c =
    let s = kept c.args.parts.now in
    let set = c.args.set.now in
    let p = has_origin set.caller set.number in
    let found = c.in-Some.ensures ∙ ap (find p) c.log.ensures.entries ∙ ap (find p) (sym (unfolded_kept c.args.parts.now)) ∙ sym (found_past s p c.requires.recent) in
    IfOk-weaker c.amended.result _ _
    (λ t h. leaves_same s t _ _ (ap (λ e. after (taken_by s set c.args.inputs e set.desired) (Ok (taken set (Some (take_rule s set))))) found) h)
    (c.amended.ensures c.args.inputs)

pub unknown-requires-clause-none : goal.unknown-requires-clause-none
unknown-requires-clause-none c =
    let s = kept c.args.parts.now in
    let set = c.args.set.now in
    let p = has_origin set.caller set.number in
    sym (c.in-None.ensures ∙ ap (find p) c.log.ensures.entries ∙ ap (find p) (sym (unfolded_kept c.args.parts.now)) ∙ sym (found_past s p c.requires.recent))

pub returns-in-None : goal.returns-in-None
returns-in-None c =
    let s = kept c.args.parts.now in
    let set = c.args.set.now in
    let p = has_origin set.caller set.number in
    let found = c.in-None.ensures ∙ ap (find p) c.log.ensures.entries ∙ ap (find p) (sym (unfolded_kept c.args.parts.now)) ∙ sym (found_past s p c.requires.recent) in
    IfOk-weaker c.unknown.result _ _
    (λ t h. leaves_same s t _ _ (ap (λ e. after (taken_by s set c.args.inputs e set.desired) (Ok (taken set (Some (take_rule s set))))) found) h)
    c.unknown.ensures
