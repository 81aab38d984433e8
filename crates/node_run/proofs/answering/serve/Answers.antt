use Rattle.std.proofs.Common.{ap, inr}
use Rattle.std.specs.Prelude.{Vec}
use Rattle.std.specs.declared.alloc.Global.{Global}
use Rattle.node_core.specs.declared.receipt.Receipt.{Receipt}
use Rattle.node_workers.specs.Desks.{at_desk}
use Rattle.node_run.proofs.StoppingLemmas.{served_asked, served_unwritten}
use Rattle.node_run.proofs.TurnLemmas.{idle, served}
use Rattle.node_run.proofs.answering.serve.Goals as goal

pub answer-requires-clause-asked : goal.answer-requires-clause-asked
answer-requires-clause-asked g c =
    served_asked (at_desk c.args.desk.now) c.inputs-inputs.result (g.C.Source.reads c.args.conn) (g.C.Source.reads c.serve_one-served.new.conn) (g.C.Sink.writes c.args.conn)
    (g.C.Sink.writes c.serve_one-served.new.conn) c.serve_one-served.new.pass.notes c.make_ready.new.pass.receipts.items c.serve_one-served.new.pass.receipts.items c.serve_one-served.result
    c.in-Console.asked c.requires.new c.serve_one-served.ensures.whole c.serve_one-served.ensures.served c.in-Console.is

pub answer-requires-clause-untold : goal.answer-requires-clause-untold
answer-requires-clause-untold g c =
    served_unwritten (at_desk c.args.desk.now) c.inputs-inputs.result (g.C.Source.reads c.args.conn) (g.C.Source.reads c.serve_one-served.new.conn) (g.C.Sink.writes c.args.conn)
    (g.C.Sink.writes c.serve_one-served.new.conn) c.serve_one-served.new.pass.notes c.make_ready.new.pass.receipts.items c.serve_one-served.new.pass.receipts.items c.serve_one-served.result
    c.in-Console.asked c.requires.new c.serve_one-served.ensures.whole c.serve_one-served.ensures.served c.in-Console.is

pub returns-then-not-make_ready : goal.returns-then-not-make_ready
returns-then-not-make_ready g c =
    let before = c.args.pass.now in
    let mid = c.make_ready.new.pass in
    let same = ap (λ (all : Vec Receipt Global). all.items) c.make_ready.ensures.receipts in
    record { turn = inr (idle before.notes mid.notes before.receipts.items mid.receipts.items (g.L.Link.exchanges c.args.link.now) c.make_ready.ensures.notes same) }

pub returns-in-Console : goal.returns-in-Console
returns-in-Console g c =
    let before = c.args.pass.now in
    let mid = c.make_ready.new.pass in
    let now = c.serve_one-served.new.pass in
    let same = ap (λ (all : Vec Receipt Global). all.items) c.make_ready.ensures.receipts in
    record {
      turn = served before.notes mid.notes now.notes before.receipts.items mid.receipts.items now.receipts.items (g.L.Link.exchanges c.args.link.now)
          (g.L.Link.exchanges c.serve_one-served.new.link) c.make_ready.ensures.notes same (at_desk c.args.desk.now) c.inputs-inputs.result (g.C.Source.reads c.args.conn)
          (g.C.Source.reads c.serve_one-served.new.conn) c.serve_one-served.ensures.makes;
    }

pub returns-in_default : goal.returns-in_default
returns-in_default g c =
    let before = c.args.pass.now in
    let mid = c.make_ready.new.pass in
    let now = c.serve_one-served.new.pass in
    let same = ap (λ (all : Vec Receipt Global). all.items) c.make_ready.ensures.receipts in
    record {
      turn = served before.notes mid.notes now.notes before.receipts.items mid.receipts.items now.receipts.items (g.L.Link.exchanges c.args.link.now)
          (g.L.Link.exchanges c.serve_one-served.new.link) c.make_ready.ensures.notes same (at_desk c.args.desk.now) c.inputs-inputs.result (g.C.Source.reads c.args.conn)
          (g.C.Source.reads c.serve_one-served.new.conn) c.serve_one-served.ensures.makes;
    }
