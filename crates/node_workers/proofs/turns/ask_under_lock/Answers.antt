use Rattle.std.proofs.Common.{◌∙◌, ap, inl, refl, sym}
use Rattle.service_events.specs.State.{Kept, me}
use Rattle.node_workers.proofs.TurnLemmas.{made_at, made_once, made_so, untouched_by}
use Rattle.node_workers.proofs.turns.ask_under_lock.Goals as goal

pub returns-clause-made : goal.returns-clause-made
returns-clause-made g c =
    let named = c.is_set_up.ensures.0 c.if-not-is_set_up.false in
    made_so c.args.kept.now.service c.event.new.kept.service c.args.desk.now.setup.now.setting.me c.args.kept.now.secret c.args.pass.now.notes
    c.event.new.pass.notes c.args.pass.now.receipts.items c.event.new.pass.receipts.items c.args.asked c.event.result
    (ap (λ (s : Kept). me s) (sym c.service.ensures) ∙ named) c.fits.ensures c.event.ensures.done c.event.ensures.notes c.event.ensures.receipts

pub returns-clause-at : goal.returns-clause-at
returns-clause-at g c =
    let named = c.is_set_up.ensures.0 c.if-not-is_set_up.false in
    made_at c.args.kept.now.service c.event.new.kept.service c.args.desk.now.setup.now.setting.me c.args.pass.now.notes.begun c.args.asked c.event.result
    (ap (λ (s : Kept). me s) (sym c.service.ensures) ∙ named) c.fits.ensures c.event.ensures.done

pub returns-then-not-is_set_up-clause-makes : goal.returns-then-not-is_set_up-clause-makes
returns-then-not-is_set_up-clause-makes g c = inl (refl, refl)

pub returns-clause-makes : goal.returns-clause-makes
returns-clause-makes g c =
    let named = c.is_set_up.ensures.0 c.if-not-is_set_up.false in
    let before = c.args.pass.now in
    let now = c.event.new.pass in
    let name = c.args.desk.now.setup.now.setting.me in
    made_once name before.notes now.notes before.receipts.items now.receipts.items c.args.asked c.event.result
    (made_so c.args.kept.now.service c.event.new.kept.service name c.args.kept.now.secret before.notes now.notes before.receipts.items now.receipts.items c.args.asked c.event.result
    (ap (λ (s : Kept). me s) (sym c.service.ensures) ∙ named) c.fits.ensures c.event.ensures.done c.event.ensures.notes c.event.ensures.receipts)
    (untouched_by before.notes now.notes before.receipts.items now.receipts.items _ c.event.result c.event.ensures.pass_err)
