use Rattle.std.proofs.Common.{subst}
use Rattle.service_events.specs.declared.event.Done.{Done as NodeDone}
use Rattle.service_events.specs.declared.event.Event.TheVariants as events
use Rattle.node_workers.proofs.MessageLemmas.{heard_so}
use Rattle.node_workers.specs.Turns.{Made}
use Rattle.node_workers.proofs.messages.take_token.Goals as goal

pub returns-clause-heard : goal.returns-clause-heard
returns-clause-heard g c =
    let name = c.args.desk.now.setup.now.setting.me in
    let before = c.args.pass.now in
    let now = c.ask.new.pass in
    let made = subst (λ (d : NodeDone). Made name before.notes now.notes before.receipts.items now.receipts.items (events.TakeToken c.args.token) d)
    c.in-TakeToken.is c.in_ok-heard.ensures.made in
    heard_so name before.notes now.notes before.receipts.items now.receipts.items c.args.token c.in-TakeToken.heard made

pub returns-clause-made : goal.returns-clause-made
returns-clause-made g c =
    let name = c.args.desk.now.setup.now.setting.me in
    let before = c.args.pass.now in
    let now = c.ask.new.pass in
    subst (λ (d : NodeDone). Made name before.notes now.notes before.receipts.items now.receipts.items (events.TakeToken c.args.token) d) c.in-TakeToken.is c.in_ok-heard.ensures.made
