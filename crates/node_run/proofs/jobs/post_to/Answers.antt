use Rattle.std.proofs.Common.{ap, inr}
use Rattle.std.specs.Prelude.{Vec}
use Rattle.std.specs.declared.alloc.Global.{Global}
use Rattle.node_core.specs.declared.receipt.Receipt.{Receipt}
use Rattle.node_workers.specs.Desks.{at_desk}
use Rattle.node_run.proofs.TurnLemmas.{idle, posted}
use Rattle.node_run.proofs.jobs.post_to.Goals as goal

pub returns-then-make_ready : goal.returns-then-make_ready
returns-then-make_ready g c =
    let before = c.args.pass.now in
    let mid = c.make_ready.new.pass in
    let now = c.post_one.new.pass in
    let same = ap (λ (all : Vec Receipt Global). all.items) c.make_ready.ensures.receipts in
    record {
      turn = posted before.notes mid.notes now.notes before.receipts.items mid.receipts.items now.receipts.items (g.L.Link.exchanges c.args.link.now)
          (g.L.Link.exchanges c.post_one.new.link) c.make_ready.ensures.notes same (at_desk c.args.desk.now) c.args.peer.now c.post_one.result c.post_one.ensures.turn;
    }

pub returns-else-make_ready : goal.returns-else-make_ready
returns-else-make_ready g c =
    let before = c.args.pass.now in
    let mid = c.make_ready.new.pass in
    let same = ap (λ (all : Vec Receipt Global). all.items) c.make_ready.ensures.receipts in
    record { turn = inr (idle before.notes mid.notes before.receipts.items mid.receipts.items (g.L.Link.exchanges c.args.link.now) c.make_ready.ensures.notes same) }
