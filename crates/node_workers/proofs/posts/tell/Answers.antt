use Rattle.std.proofs.Common.{subst}
use Rattle.service_events.specs.declared.event.Done.{Done as NodeDone}
use Rattle.service_events.specs.declared.event.Event.TheVariants as events
use Rattle.node_workers.specs.Turns.{Made}
use Rattle.node_workers.proofs.posts.tell.Goals as goal

pub returns-clause-made : goal.returns-clause-made
returns-clause-made g c =
    let name = c.args.desk.now.setup.now.setting.me in
    let before = c.args.pass.now in
    let now = c.ask.new.pass in
    subst (λ (d : NodeDone). Made name before.notes now.notes before.receipts.items now.receipts.items (events.Posted c.args.post c.args.reply) d)
    c.in-Posted.is c.in_ok-posted.ensures.made
