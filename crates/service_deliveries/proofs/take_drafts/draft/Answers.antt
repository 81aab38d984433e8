use Rattle.std.proofs.Common.{◌∙◌, ap, Ok}
use Rattle.std.proofs.lemmas.Result.{IfOk-weaker}
use Rattle.service_parts.specs.Parts.{kept}
use Rattle.service_deliveries.proofs.TakeLemmas.{again_is, leaves_same, newer_is, recent_is, rule_is}
use Rattle.service_deliveries.proofs.take_drafts.draft.Goals as goal

pub returns-in-None : goal.returns-in-None
returns-in-None c =
    let s = kept c.args.parts.now in
    IfOk-weaker c.again.result _ _
    (λ t h. leaves_same s t _ _ (again_is s c.args.set.now c.args.inputs c.requires.landed (c.requires.admitted ∙ ap (λ r. Ok r) c.in-None.is)) h)
    c.again.ensures

pub newer-requires-clause-rule : goal.newer-requires-clause-rule
newer-requires-clause-rule c =
    rule_is (kept c.args.parts.now) c.args.set.now c.in-Some.rule (c.requires.admitted ∙ ap (λ r. Ok r) c.in-Some.is)

pub newer-requires-clause-recent : goal.newer-requires-clause-recent
newer-requires-clause-recent c =
    recent_is (kept c.args.parts.now) c.args.set.now c.in-Some.rule (c.requires.admitted ∙ ap (λ r. Ok r) c.in-Some.is)

pub returns-in-Some : goal.returns-in-Some
returns-in-Some c =
    let s = kept c.args.parts.now in
    IfOk-weaker c.newer.result _ _
    (λ t h. leaves_same s t _ _ (newer_is s c.args.set.now c.args.inputs c.requires.landed c.in-Some.rule (c.requires.admitted ∙ ap (λ r. Ok r) c.in-Some.is)) h)
    c.newer.ensures
