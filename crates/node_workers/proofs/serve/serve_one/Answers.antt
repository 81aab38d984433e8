use Rattle.std.proofs.Common.{inl, inr, ◌∙◌, ap, refl, subst, sym}
use Rattle.io_edge.specs.Edge.{Reads}
use Rattle.node_workers.proofs.CallLemmas.{counts_none}
use Rattle.node_workers.proofs.NotedLemmas.{only_read}
use Rattle.node_workers.proofs.ServeLemmas.{fault_counted, refused_well, served_to}
use Rattle.node_workers.specs.Desks.{at_desk}
use Rattle.node_workers.specs.Serving.{Hears}
use Rattle.node_workers.proofs.serve.serve_one.Goals as goal

pub returns-in-Err-clause-served : goal.returns-in-Err-clause-served
returns-in-Err-clause-served g c =
    let e = at_desk c.args.desk.now in
    let law = g.met.C.Connection.write_keeps in
    let mid = c.hear_on.new.conn in
    let end = c.refuse_unheard.new.conn in
    let notes = c.args.pass.now.notes in
    let receipts = c.args.pass.now.receipts.items in
    let answer = c.refuse_unheard.result in
    served_to e c.args.inputs (g.C.Source.reads c.args.conn.now) (g.C.Source.reads mid) (g.C.Source.reads end) (g.C.Sink.writes c.args.conn.now) (g.C.Sink.writes mid)
    (g.C.Sink.writes end) notes receipts receipts answer (sym (law end) ∙ (c.refuse_unheard.ensures.beside ∙ law mid)) c.hear_on.ensures.writes
    (refused_well e c.args.inputs (g.C.Source.reads c.args.conn.now) (g.C.Source.reads mid) (g.C.Sink.writes mid) (g.C.Sink.writes end) notes receipts receipts c.in-Err.why
    answer c.in-Err.ensures.heard c.in-Err.ensures.fault refl c.refuse_unheard.ensures.served)

pub returns-in-Err-clause-calls : goal.returns-in-Err-clause-calls
returns-in-Err-clause-calls g c =
    let notes = c.args.pass.now.notes in
    let exchanges = g.L.Link.exchanges c.args.link.now in
    counts_none (at_desk c.args.desk.now) notes notes exchanges exchanges refl refl refl

pub returns-in-Err-clause-fault : goal.returns-in-Err-clause-fault
returns-in-Err-clause-fault g c =
    let e = at_desk c.args.desk.now in
    let law = g.met.C.Connection.write_keeps in
    let mid = c.hear_on.new.conn in
    let end = c.refuse_unheard.new.conn in
    let notes = c.args.pass.now.notes in
    let receipts = c.args.pass.now.receipts.items in
    let answer = c.refuse_unheard.result in
    fault_counted e c.args.inputs (g.C.Source.reads c.args.conn.now) (g.C.Source.reads end) (g.C.Sink.writes c.args.conn.now) (g.C.Sink.writes end) notes receipts receipts answer
    (served_to e c.args.inputs (g.C.Source.reads c.args.conn.now) (g.C.Source.reads mid) (g.C.Source.reads end) (g.C.Sink.writes c.args.conn.now) (g.C.Sink.writes mid)
    (g.C.Sink.writes end) notes receipts receipts answer (sym (law end) ∙ (c.refuse_unheard.ensures.beside ∙ law mid)) c.hear_on.ensures.writes
    (refused_well e c.args.inputs (g.C.Source.reads c.args.conn.now) (g.C.Source.reads mid) (g.C.Sink.writes mid) (g.C.Sink.writes end) notes receipts receipts c.in-Err.why
    answer c.in-Err.ensures.heard c.in-Err.ensures.fault refl c.refuse_unheard.ensures.served))

pub returns-in-Err-clause-whole : goal.returns-in-Err-clause-whole
returns-in-Err-clause-whole g c =
    let law = g.met.C.Connection.write_keeps in
    let mid = c.hear_on.new.conn in
    let end = c.refuse_unheard.new.conn in
    ap (λ (r : Reads). r.whole) (sym (law end) ∙ (c.refuse_unheard.ensures.beside ∙ law mid)) ∙ c.hear_on.ensures.whole

pub returns-in-Ok-clause-served : goal.returns-in-Ok-clause-served
returns-in-Ok-clause-served g c =
    let law = g.met.C.Connection.write_keeps in
    let mid = c.hear_on.new.conn in
    let end = c.serve.new.conn in
    served_to (at_desk c.args.desk.now) c.args.inputs (g.C.Source.reads c.args.conn.now) (g.C.Source.reads mid) (g.C.Source.reads end) (g.C.Sink.writes c.args.conn.now)
    (g.C.Sink.writes mid) (g.C.Sink.writes end) c.serve.new.pass.notes c.args.pass.now.receipts.items c.serve.new.pass.receipts.items c.serve.result
    (sym (law end) ∙ (c.serve.ensures.beside ∙ law mid)) c.hear_on.ensures.writes
    (c.serve.ensures.served (g.C.Source.reads c.args.conn.now) (c.in-Ok.ensures.heard, c.in-Ok.ensures.alone))

pub returns-in-Ok-clause-fault : goal.returns-in-Ok-clause-fault
returns-in-Ok-clause-fault g c =
    let e = at_desk c.args.desk.now in
    let law = g.met.C.Connection.write_keeps in
    let mid = c.hear_on.new.conn in
    let end = c.serve.new.conn in
    let notes = c.serve.new.pass.notes in
    let had = c.args.pass.now.receipts.items in
    let have = c.serve.new.pass.receipts.items in
    fault_counted e c.args.inputs (g.C.Source.reads c.args.conn.now) (g.C.Source.reads end) (g.C.Sink.writes c.args.conn.now) (g.C.Sink.writes end) notes had have c.serve.result
    (served_to e c.args.inputs (g.C.Source.reads c.args.conn.now) (g.C.Source.reads mid) (g.C.Source.reads end) (g.C.Sink.writes c.args.conn.now) (g.C.Sink.writes mid)
    (g.C.Sink.writes end) notes had have c.serve.result (sym (law end) ∙ (c.serve.ensures.beside ∙ law mid)) c.hear_on.ensures.writes
    (c.serve.ensures.served (g.C.Source.reads c.args.conn.now) (c.in-Ok.ensures.heard, c.in-Ok.ensures.alone)))

pub returns-in-Ok-clause-whole : goal.returns-in-Ok-clause-whole
returns-in-Ok-clause-whole g c =
    let law = g.met.C.Connection.write_keeps in
    let mid = c.hear_on.new.conn in
    let end = c.serve.new.conn in
    ap (λ (r : Reads). r.whole) (sym (law end) ∙ (c.serve.ensures.beside ∙ law mid)) ∙ c.hear_on.ensures.whole

pub returns-in-Err-clause-makes : goal.returns-in-Err-clause-makes
returns-in-Err-clause-makes g c = inl ((refl, refl), refl)

pub returns-in-Ok-clause-makes : goal.returns-in-Ok-clause-makes
returns-in-Ok-clause-makes g c =
    let law = g.met.C.Connection.write_keeps in
    let same = sym (law c.serve.new.conn) ∙ (c.serve.ensures.beside ∙ law c.hear_on.new.conn) in
    let heard = subst (λ (r : Reads). Hears (at_desk c.args.desk.now) (g.C.Source.reads c.args.conn.now) r c.in-Ok.message) (sym same)
    (c.in-Ok.ensures.heard, c.in-Ok.ensures.alone) in
    inr (c.in-Ok.message, heard, c.serve.ensures.makes)

pub returns-in-Err-clause-orders : goal.returns-in-Err-clause-orders
returns-in-Err-clause-orders g c = inl refl

pub returns-in-Ok-clause-orders : goal.returns-in-Ok-clause-orders
returns-in-Ok-clause-orders g c =
    only_read (at_desk c.args.desk.now) (g.C.Source.reads c.args.conn.now) (g.C.Source.reads c.serve.new.conn) c.args.inputs c.args.pass.now.notes c.serve.new.pass.notes
    c.args.pass.now.receipts.items c.serve.new.pass.receipts.items (g.L.Link.exchanges c.args.link.now) (g.L.Link.exchanges c.serve.new.link) (returns-in-Ok-clause-makes g c)
