use Rattle.std.proofs.Common.{inl, Some, ◌∙◌, ap, refl, sym}
use Rattle.aire_wire.specs.declared.incoming.Incoming.TheVariants.{Live}
use Rattle.node_workers.proofs.CallLemmas.{counts_none}
use Rattle.node_workers.proofs.ServeLemmas.{call_served, message_dropped}
use Rattle.node_workers.proofs.CommitLemmas.{call_makes}
use Rattle.node_workers.specs.Desks.{at_desk}
use Rattle.node_workers.proofs.serve.serve_call.Goals as goal

pub returns-in_default-clause-served : goal.returns-in_default-clause-served
returns-in_default-clause-served g c =
    let writes = g.C.Sink.writes c.args.conn.now in
    let receipts = c.args.pass.now.receipts.items in
    message_dropped (at_desk c.args.desk.now) c.args.inputs (g.C.Source.reads c.args.conn.now) writes writes c.args.pass.now.notes receipts receipts (Live c.args.set) refl refl

pub returns-in_default-clause-counts : goal.returns-in_default-clause-counts
returns-in_default-clause-counts g c =
    let notes = c.args.pass.now.notes in
    let exchanges = g.L.Link.exchanges c.args.link.now in
    counts_none (at_desk c.args.desk.now) notes notes exchanges exchanges refl refl refl

pub serve_live-requires-clause-to : goal.serve_live-requires-clause-to
serve_live-requires-clause-to g c = ap Some (c.in-Ok.ensures ∙ sym c.parts_of-caller.ensures.caller)

pub returns-clause-served : goal.returns-clause-served
returns-clause-served g c =
    let parts = c.parts_of-caller.result in
    let of = c.parts_of-caller.ensures in
    call_served (at_desk c.args.desk.now) c.args.inputs (g.C.Source.reads c.args.conn.now) (g.C.Sink.writes c.args.conn.now) (g.C.Sink.writes c.serve_live.new.conn)
    c.serve_live.new.pass.notes c.args.pass.now.receipts.items c.serve_live.new.pass.receipts.items c.args.set parts.0 parts.1 parts.2 c.serve_live.result of.caller of.number
    of.request c.serve_live.ensures.served

pub returns-in_default-clause-makes : goal.returns-in_default-clause-makes
returns-in_default-clause-makes g c = inl ((refl, refl), refl)

pub returns-clause-makes : goal.returns-clause-makes
returns-clause-makes g c =
    let parts = c.parts_of-caller.result in
    let of = c.parts_of-caller.ensures in
    call_makes (at_desk c.args.desk.now) c.args.inputs c.args.set parts.0 parts.1 parts.2 c.args.pass.now.notes c.serve_live.new.pass.notes c.args.pass.now.receipts.items
    c.serve_live.new.pass.receipts.items (g.L.Link.exchanges c.args.link.now) (g.L.Link.exchanges c.serve_live.new.link) of.caller of.number of.request
    c.serve_live.ensures.makes
