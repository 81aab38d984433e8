use Rattle.std.proofs.Common.{subst}
use Rattle.service_events.specs.declared.event.Done.{Done as NodeDone}
use Rattle.service_events.specs.declared.event.Event.TheVariants as events
use Rattle.node_workers.proofs.PostLemmas.{written_at, written_made}
use Rattle.node_workers.specs.Turns.{Made, MadeAt}
use Rattle.node_workers.proofs.posts.written.Goals as goal

pub returns-clause-at : goal.returns-clause-at
returns-clause-at g c =
    let name = c.args.desk.now.setup.now.setting.me in
    let s = c.args.kept.now.service in
    let t = c.ask_under_lock.new.kept.service in
    let begun = c.args.pass.now.notes.begun in
    let at = subst (λ (d : NodeDone). MadeAt name s t begun (events.WritePost c.args.name) d) c.in-WritePost.is c.in_ok-written.ensures.at in
    written_at name c.args.name s t begun c.in-WritePost.written at

pub returns-clause-made : goal.returns-clause-made
returns-clause-made g c =
    let name = c.args.desk.now.setup.now.setting.me in
    let before = c.args.pass.now in
    let now = c.ask_under_lock.new.pass in
    let made = subst (λ (d : NodeDone). Made name before.notes now.notes before.receipts.items now.receipts.items (events.WritePost c.args.name) d)
    c.in-WritePost.is c.in_ok-written.ensures.made in
    written_made name c.args.name before.notes now.notes before.receipts.items now.receipts.items c.in-WritePost.written made
