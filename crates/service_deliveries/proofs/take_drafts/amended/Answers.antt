use Rattle.std.proofs.Common.{◌∙◌, sym, ap, refl, subst, ◌+◌, Some, length}
use Rattle.std.proofs.lemmas.Result.{IfOk-weaker}
use Rattle.service_events.specs.Messages.{at_version, take_rule, taken}
use Rattle.service_parts.specs.Parts.{kept}
use Rattle.service_deliveries.specs.TakeChanges.{changed_by, CanChange}
use Rattle.service_deliveries.specs.Rows.{taken_rows}
use Rattle.service_deliveries.specs.declared.take_changes.TakeChange.TheVariants.{Amend}
use Rattle.service_deliveries.specs.declared.take_changes.Taking.{Taking}
use Rattle.service_deliveries.proofs.TakeLemmas.{leaves_of}
use Rattle.service_deliveries.proofs.take_drafts.amended.Goals as goal

pub returns : goal.returns
returns c i =
    let s = kept c.args.parts.now in
    let set = c.args.set.now in
    IfOk-weaker c.taking.result _ _
    (λ t h.
    let change = ap (λ (t : Taking). t.change) h
    ∙ ap (λ e. Amend e c.index-since.result) c.in_ok-entry.ensures
    ∙ ap (λ n. Amend (at_version set c.args.old.now) n) c.index-since.ensures in
    leaves_of s (changed_by s (Amend (at_version set c.args.old.now) (length s.journal + 1))) t (taken set (Some (take_rule s set))) (taken_rows (take_rule s set) set)
    (ap (λ (t : Taking). t.taken) h ∙ ap (λ n. taken set (Some n)) c.requires.rule)
    (ap (λ (t : Taking). t.rows.items) h ∙ c.in_ok-rows.ensures ∙ ap (λ n. taken_rows n set) c.requires.rule)
    (ap (changed_by s) change) (λ at rs. refl) (subst (CanChange s) (sym change) (c.requires.can.0, c.requires.can.1)))
    c.taking.ensures
