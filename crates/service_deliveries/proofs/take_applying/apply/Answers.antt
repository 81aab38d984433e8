use Rattle.std.proofs.Common.{◌≡◌, ◌≤◌, List, OnOk, ap, length, subst, sym, ◌∙◌}
use Rattle.request_log.specs.declared.entry.Entry.{Entry}
use Rattle.local_repair.specs.Repairs.{IsAmended}
use Rattle.service_events.specs.State.{Kept}
use Rattle.service_parts.specs.Parts.{kept}
use Rattle.service_parts.proofs.WholeLemmas.{none_past, unfolded_kept}
use Rattle.service_deliveries.specs.TakeChanges.{CanChange, changed_by}
use Rattle.service_deliveries.specs.declared.take_changes.TakeChange.{TakeChange}
use Rattle.service_deliveries.proofs.TakeLemmas.{changed_or_not, changed_so}
use Rattle.service_deliveries.proofs.take_applying.apply.Goals as goal

pub amend_due-requires-clause-past : goal.amend_due-requires-clause-past
amend_due-requires-clause-past c =
    let p = c.args.parts.now in
    let can = subst (CanChange (kept p)) c.in-Amend.is c.requires in
    none_past p c.in-Amend.entry.id can.1

pub amend_due-requires-clause-amends : goal.amend_due-requires-clause-amends
amend_due-requires-clause-amends c =
    let p = c.args.parts.now in
    let can = subst (CanChange (kept p)) c.in-Amend.is c.requires in
    subst (λ (es : List Entry). IsAmended c.in-Amend.entry es) (unfolded_kept p) can.0

pub returns-in-Amend-clause-ok : goal.returns-in-Amend-clause-ok
returns-in-Amend-clause-ok c =
    let p = c.args.parts.now in
    let made = c.amend_due.ensures in
    changed_so p c.amend_due.new.repairer _ c.amend_due.new.replies.list _ made.entries made.folded made.base made.replies ∙ ap (changed_by (kept p)) (sym c.in-Amend.is)

pub create-requires-clause-within : goal.create-requires-clause-within
create-requires-clause-within c =
    let p = c.args.parts.now in
    let can = subst (CanChange (kept p)) c.in-Create.is c.requires in
    subst (λ (es : List Entry). c.in-Create.at ≤ length es) (unfolded_kept p) can.within

pub returns-in-Create-clause-ok : goal.returns-in-Create-clause-ok
returns-in-Create-clause-ok c =
    let p = c.args.parts.now in
    let made = c.create.ensures in
    let now : Kept = kept (record p { repairer = c.create.new.repairer; replies = c.create.new.replies }) in
    subst (λ (change : TakeChange). OnOk c.create.result (now ≡ changed_by (kept p) change)) (sym c.in-Create.is)
    (changed_or_not p c.create.new.repairer _ c.create.new.replies.list _ c.create.result made.entries made.folded made.base made.replies)
