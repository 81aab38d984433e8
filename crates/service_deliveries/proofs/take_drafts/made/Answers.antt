use Rattle.std.proofs.Common.{◌∙◌, sym, ap, refl, subst, Some}
use Rattle.std.proofs.lemmas.Result.{IfOk-weaker}
use Rattle.service_events.specs.Messages.{created_entry, created_reply, take_rule, taken}
use Rattle.service_parts.specs.Parts.{kept}
use Rattle.service_deliveries.specs.TakeChanges.{changed_by, created_change, CanChange}
use Rattle.service_deliveries.specs.Rows.{created_rows}
use Rattle.service_deliveries.specs.declared.take_changes.Taking.{Taking}
use Rattle.service_deliveries.proofs.TakeLemmas.{leaves_of}
use Rattle.service_deliveries.proofs.take_drafts.made.Goals as goal

pub returns : goal.returns
returns c =
    let s = kept c.args.parts.now in
    let set = c.args.set.now in
    let q = c.args.request.now in
    let i = c.args.inputs.now in
    IfOk-weaker c.taking.result _ _
    (λ t h.
    let change = ap (λ (t : Taking). t.change) h in
    leaves_of s (created_change s set (created_entry s set q i) (created_reply s set)) t (taken set (Some (take_rule s set))) (created_rows (take_rule s set) s set q i)
    (ap (λ (t : Taking). t.taken) h ∙ ap (λ n. taken set (Some n)) c.requires.rule)
    (ap (λ (t : Taking). t.rows.items) h ∙ c.in_ok-rows.ensures ∙ ap (λ n. created_rows n s set q i) c.requires.rule)
    (ap (changed_by s) change ∙ c.in_ok-change.ensures.is) (λ at rs. refl) (subst (CanChange s) (sym change) c.in_ok-change.ensures.can))
    c.taking.ensures
