use Rattle.std.proofs.Common.{◌∙◌, sym, ap, refl, subst, [], ◌∷◌, None}
use Rattle.std.proofs.lemmas.Result.{IfOk-weaker}
use Rattle.service_events.specs.Messages.{acked_row, taken}
use Rattle.service_parts.specs.Parts.{kept}
use Rattle.service_deliveries.specs.TakeChanges.{changed_by, CanChange}
use Rattle.service_deliveries.specs.declared.take_changes.Taking.{Taking}
use Rattle.service_deliveries.proofs.TakeLemmas.{leaves_of}
use Rattle.service_deliveries.proofs.take_drafts.again.Goals as goal

pub returns : goal.returns
returns c =
    let s = kept c.args.parts.now in
    let set = c.args.set.now in
    IfOk-weaker c.taking.result _ _
    (λ t h.
    let change = ap (λ (t : Taking). t.change) h in
    leaves_of s _ t (taken set None) (acked_row set ∷ []) (ap (λ (t : Taking). t.taken) h) (ap (λ (t : Taking). t.rows.items) h ∙ c.in_ok-rows.ensures)
    (ap (changed_by s) change ∙ c.due_again-change.ensures.is) (λ at rs. refl) (subst (CanChange s) (sym change) c.due_again-change.ensures.can))
    c.taking.ensures
