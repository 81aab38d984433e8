use Rattle.std.proofs.Common.{◌∙◌, sym, ap, refl, subst, Some}
use Rattle.std.proofs.lemmas.Result.{IfOk-weaker}
use Rattle.service_events.specs.Messages.{take_rule, taken}
use Rattle.service_parts.specs.Parts.{kept}
use Rattle.service_deliveries.specs.TakeChanges.{changed_by, CanChange}
use Rattle.service_deliveries.specs.Rows.{taken_rows}
use Rattle.service_deliveries.specs.declared.take_changes.Taking.{Taking}
use Rattle.service_deliveries.proofs.TakeLemmas.{leaves_of}
use Rattle.service_deliveries.proofs.take_drafts.unmet.Goals as goal

pub returns : goal.returns
returns c i =
    let s = kept c.args.parts.now in
    let set = c.args.set.now in
    IfOk-weaker c.taking.result _ _
    (λ t h.
    let change = ap (λ (t : Taking). t.change) h in
    leaves_of s s t (taken set (Some (take_rule s set))) (taken_rows (take_rule s set) set)
    (ap (λ (t : Taking). t.taken) h ∙ ap (λ n. taken set (Some n)) c.requires)
    (ap (λ (t : Taking). t.rows.items) h ∙ c.in_ok-rows.ensures ∙ ap (λ n. taken_rows n set) c.requires)
    (ap (changed_by s) change) (λ at rs. refl) (subst (CanChange s) (sym change) tt))
    c.taking.ensures
