use Rattle.std.proofs.Common.{ap, ◌∙◌, None, Some, Ok}
use Rattle.std.proofs.lemmas.Result.{IfOk-weaker}
use Rattle.lang_core.specs.declared.inputs.Inputs.{Inputs}
use Rattle.lang_core.specs.declared.request.Request.{Request}
use Rattle.service_events.specs.State.{after}
use Rattle.service_events.specs.Messages.{take_rule, taken, taken_by}
use Rattle.service_parts.specs.Parts.{kept}
use Rattle.service_deliveries.proofs.TakeLemmas.{leaves_same}
use Rattle.service_deliveries.proofs.take_drafts.made_of.Goals as goal

pub returns : goal.returns
returns c =
    let s = kept c.args.parts.now in
    let set = c.args.set.now in
    IfOk-weaker c.made.result _ _
    (λ t h. leaves_same s t _ _
    (ap (λ (q : Request). after (taken_by s set c.in_ok-drawn.drawn None (Some q)) (Ok (taken set (Some (take_rule s set))))) c.in_ok-held.ensures
    ∙ ap (λ (i : Inputs). after (taken_by s set i None (Some c.args.request.now)) (Ok (taken set (Some (take_rule s set))))) c.in_ok-drawn.ensures) h)
    c.made.ensures
