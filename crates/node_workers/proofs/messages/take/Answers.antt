use Rattle.std.proofs.Common.{subst}
use Rattle.service_events.specs.declared.event.Done.{Done as NodeDone}
use Rattle.service_events.specs.declared.event.Event.TheVariants as events
use Rattle.node_workers.proofs.MessageLemmas.{taken_so}
use Rattle.node_workers.specs.Turns.{Made}
use Rattle.node_workers.proofs.messages.take.Goals as goal

pub returns-clause-taken : goal.returns-clause-taken
returns-clause-taken g c =
    let name = c.args.desk.now.setup.now.setting.me in
    let before = c.args.pass.now in
    let now = c.ask.new.pass in
    let made = subst (λ (d : NodeDone). Made name before.notes now.notes before.receipts.items now.receipts.items (events.Take c.args.set c.args.inputs) d)
    c.in-Take.is c.in_ok-taken.ensures.made in
    taken_so name before.notes now.notes before.receipts.items now.receipts.items c.args.set c.args.inputs c.in-Take.taken made

pub returns-clause-made : goal.returns-clause-made
returns-clause-made g c =
    let name = c.args.desk.now.setup.now.setting.me in
    let before = c.args.pass.now in
    let now = c.ask.new.pass in
    subst (λ (d : NodeDone). Made name before.notes now.notes before.receipts.items now.receipts.items (events.Take c.args.set c.args.inputs) d) c.in-Take.is c.in_ok-taken.ensures.made
