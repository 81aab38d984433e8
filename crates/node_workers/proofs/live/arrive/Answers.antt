use Rattle.std.proofs.Common.{subst, sym}
use Rattle.node_workers.proofs.ArrivalLemmas.{arrival_keeps, begins}
use Rattle.node_workers.specs.Desks.{at_desk}
use Rattle.node_workers.specs.Flying.{BeginsSo}
use Rattle.node_workers.proofs.live.arrive.Goals as goal

pub returns-clause-begins : goal.returns-clause-begins
returns-clause-begins g c =
    let a = c.args in
    let e = at_desk a.desk.now in
    let before = a.pass.now in
    let now = c.ask.new.pass in
    subst (BeginsSo e a.origin a.request a.inputs now.notes before.receipts.items now.receipts.items) (sym c.began_of.ensures)
    (begins e a.origin a.request a.inputs before.notes now.notes before.receipts.items now.receipts.items c.requires.none c.ask.result c.ask.ensures.made c.ask.ensures.err)

pub returns-clause-arrival : goal.returns-clause-arrival
returns-clause-arrival g c = record { answer = c.ask.result; made = c.ask.ensures.made; nothing = c.ask.ensures.err; begins = c.began_of.ensures }

pub returns-clause-lost : goal.returns-clause-lost
returns-clause-lost g c =
    let a = c.args in
    let before = a.pass.now in
    let now = c.ask.new.pass in
    (arrival_keeps a.desk.now.setup.now.setting.me a.origin a.request a.inputs before.notes now.notes before.receipts.items now.receipts.items c.ask.result c.ask.ensures.made
    c.ask.ensures.err).0

pub returns-clause-refused : goal.returns-clause-refused
returns-clause-refused g c =
    let a = c.args in
    let before = a.pass.now in
    let now = c.ask.new.pass in
    (arrival_keeps a.desk.now.setup.now.setting.me a.origin a.request a.inputs before.notes now.notes before.receipts.items now.receipts.items c.ask.result c.ask.ensures.made
    c.ask.ensures.err).1
