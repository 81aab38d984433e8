use Rattle.std.proofs.Common.{sym, ap, None, Some, Ok}
use Rattle.std.proofs.lemmas.Result.{IfOk-weaker}
use Rattle.service_events.specs.State.{after}
use Rattle.service_events.specs.Messages.{take_rule, taken, taken_by}
use Rattle.service_parts.specs.Parts.{kept}
use Rattle.service_deliveries.proofs.TakeLemmas.{leaves_same}
use Rattle.service_deliveries.proofs.take_drafts.unknown.Goals as goal

pub returns-in-None : goal.returns-in-None
returns-in-None c =
    let s = kept c.args.parts.now in
    let set = c.args.set.now in
    IfOk-weaker c.unmet.result _ _
    (λ t h. leaves_same s t _ _ (ap (λ d. after (taken_by s set c.args.inputs None d) (Ok (taken set (Some (take_rule s set))))) (sym c.in-None.is)) h)
    (c.unmet.ensures c.args.inputs)
