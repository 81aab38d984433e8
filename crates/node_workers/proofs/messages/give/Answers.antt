use Rattle.std.proofs.Common.{subst}
use Rattle.service_events.specs.declared.event.Done.{Done as NodeDone}
use Rattle.service_events.specs.declared.event.Event.TheVariants as events
use Rattle.node_workers.proofs.MessageLemmas.{given_so}
use Rattle.node_workers.specs.Turns.{Made}
use Rattle.node_workers.proofs.messages.give.Goals as goal

pub returns-clause-given : goal.returns-clause-given
returns-clause-given g c =
    let name = c.args.desk.now.setup.now.setting.me in
    let before = c.args.pass.now in
    let now = c.ask.new.pass in
    let made = subst (λ (d : NodeDone). Made name before.notes now.notes before.receipts.items now.receipts.items (events.Give c.args.fetch) d)
    c.in-Give.is c.in_ok-given.ensures.made in
    given_so name before.notes now.notes before.receipts.items now.receipts.items c.args.fetch c.in-Give.given made

pub returns-clause-made : goal.returns-clause-made
returns-clause-made g c =
    let name = c.args.desk.now.setup.now.setting.me in
    let before = c.args.pass.now in
    let now = c.ask.new.pass in
    subst (λ (d : NodeDone). Made name before.notes now.notes before.receipts.items now.receipts.items (events.Give c.args.fetch) d) c.in-Give.is c.in_ok-given.ensures.made
