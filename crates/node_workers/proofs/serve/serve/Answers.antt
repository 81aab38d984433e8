use Rattle.std.proofs.Common.{◌∙◌, refl, subst, sym}
use Rattle.aire_wire.specs.declared.incoming.Incoming.{Incoming}
use Rattle.wire_bytes.specs.Hearing.{IsKnownMessage}
use Rattle.node_workers.proofs.CallLemmas.{counts_none}
use Rattle.node_workers.proofs.ServeLemmas.{asks_so, console_served, outside_served}
use Rattle.node_workers.specs.Asking.{MakesFor}
use Rattle.node_workers.specs.Desks.{at_desk}
use Rattle.node_workers.specs.Serving.{ServesMessage}
use Rattle.node_workers.proofs.serve.serve.Goals as goal

pub serve_call-requires-clause-asks : goal.serve_call-requires-clause-asks
serve_call-requires-clause-asks g c =
    let e = at_desk c.args.desk.now in
    asks_so e.me e.secrets e.console c.in-Live.set (subst (λ (m : Incoming). IsKnownMessage e.me e.secrets e.console m) c.in-Live.is c.requires.known)

pub serve_set-requires : goal.serve_set-requires
serve_set-requires g c =
    let e = at_desk c.args.desk.now in
    let known = subst (λ (m : Incoming). IsKnownMessage e.me e.secrets e.console m) c.in-Set.is c.requires.known in
    record { fresh = c.requires.fresh; dest = known.1.dest }

pub serve_token-requires : goal.serve_token-requires
serve_token-requires g c =
    let e = at_desk c.args.desk.now in
    let known = subst (λ (m : Incoming). IsKnownMessage e.me e.secrets e.console m) c.in-Token.is c.requires.known in
    record { fresh = c.requires.fresh; caller = known.1.caller }

pub returns-in-Outside-clause-served : goal.returns-in-Outside-clause-served
returns-in-Outside-clause-served g c =
    let e = at_desk c.args.desk.now in
    let reads = g.C.Source.reads c.args.conn.now in
    let wrote = g.C.Sink.writes c.args.conn.now in
    let now = g.C.Sink.writes c.serve_live.new.conn in
    let notes = c.serve_live.new.pass.notes in
    let had = c.args.pass.now.receipts.items in
    let have = c.serve_live.new.pass.receipts.items in
    subst (λ (m : Incoming). ServesMessage e c.args.inputs m reads wrote now notes had have c.serve_live.result) (sym c.in-Outside.is)
    (outside_served e c.args.inputs reads wrote now notes had have c.in-Outside.request c.serve_live.result c.serve_live.ensures.served)

pub returns-in-Live-clause-served : goal.returns-in-Live-clause-served
returns-in-Live-clause-served g c =
    subst (λ (m : Incoming). ServesMessage (at_desk c.args.desk.now) c.args.inputs m (g.C.Source.reads c.args.conn.now) (g.C.Sink.writes c.args.conn.now)
    (g.C.Sink.writes c.serve_call.new.conn) c.serve_call.new.pass.notes c.args.pass.now.receipts.items c.serve_call.new.pass.receipts.items c.serve_call.result) (sym c.in-Live.is)
    c.serve_call.ensures.served

pub returns-in-Set-clause-served : goal.returns-in-Set-clause-served
returns-in-Set-clause-served g c =
    subst (λ (m : Incoming). ServesMessage (at_desk c.args.desk.now) c.args.inputs m (g.C.Source.reads c.args.conn.now) (g.C.Sink.writes c.args.conn.now)
    (g.C.Sink.writes c.serve_set.new.conn) c.serve_set.new.pass.notes c.args.pass.now.receipts.items c.serve_set.new.pass.receipts.items c.serve_set.result) (sym c.in-Set.is)
    c.serve_set.ensures.served

pub returns-in-Set-clause-closed : goal.returns-in-Set-clause-closed
returns-in-Set-clause-closed g c = c.serve_set.ensures.keeps.1 ∙ c.requires.none

pub returns-in-Set-clause-counts : goal.returns-in-Set-clause-counts
returns-in-Set-clause-counts g c =
    let exchanges = g.L.Link.exchanges c.args.link.now in
    let keeps = c.serve_set.ensures.keeps in
    counts_none (at_desk c.args.desk.now) c.args.pass.now.notes c.serve_set.new.pass.notes exchanges exchanges keeps.2 keeps.3 refl

pub returns-in-Token-clause-served : goal.returns-in-Token-clause-served
returns-in-Token-clause-served g c =
    subst (λ (m : Incoming). ServesMessage (at_desk c.args.desk.now) c.args.inputs m (g.C.Source.reads c.args.conn.now) (g.C.Sink.writes c.args.conn.now)
    (g.C.Sink.writes c.serve_token.new.conn) c.serve_token.new.pass.notes c.args.pass.now.receipts.items c.serve_token.new.pass.receipts.items c.serve_token.result) (sym c.in-Token.is)
    c.serve_token.ensures.served

pub returns-in-Token-clause-closed : goal.returns-in-Token-clause-closed
returns-in-Token-clause-closed g c = c.serve_token.ensures.keeps.1 ∙ c.requires.none

pub returns-in-Token-clause-counts : goal.returns-in-Token-clause-counts
returns-in-Token-clause-counts g c =
    let exchanges = g.L.Link.exchanges c.args.link.now in
    let keeps = c.serve_token.ensures.keeps in
    counts_none (at_desk c.args.desk.now) c.args.pass.now.notes c.serve_token.new.pass.notes exchanges exchanges keeps.2 keeps.3 refl

pub returns-in-Fetch-clause-served : goal.returns-in-Fetch-clause-served
returns-in-Fetch-clause-served g c =
    subst (λ (m : Incoming). ServesMessage (at_desk c.args.desk.now) c.args.inputs m (g.C.Source.reads c.args.conn.now) (g.C.Sink.writes c.args.conn.now)
    (g.C.Sink.writes c.serve_fetch.new.conn) c.serve_fetch.new.pass.notes c.args.pass.now.receipts.items c.serve_fetch.new.pass.receipts.items c.serve_fetch.result) (sym c.in-Fetch.is)
    c.serve_fetch.ensures.served

pub returns-in-Fetch-clause-closed : goal.returns-in-Fetch-clause-closed
returns-in-Fetch-clause-closed g c = c.serve_fetch.ensures.keeps.1 ∙ c.requires.none

pub returns-in-Fetch-clause-counts : goal.returns-in-Fetch-clause-counts
returns-in-Fetch-clause-counts g c =
    let exchanges = g.L.Link.exchanges c.args.link.now in
    let keeps = c.serve_fetch.ensures.keeps in
    counts_none (at_desk c.args.desk.now) c.args.pass.now.notes c.serve_fetch.new.pass.notes exchanges exchanges keeps.2 keeps.3 refl

pub returns-in-Console-clause-served : goal.returns-in-Console-clause-served
returns-in-Console-clause-served g c =
    let e = at_desk c.args.desk.now in
    let reads = g.C.Source.reads c.args.conn.now in
    let wrote = g.C.Sink.writes c.args.conn.now in
    let now = g.C.Sink.writes c.serve_console.new.conn in
    let notes = c.serve_console.new.pass.notes in
    let had = c.args.pass.now.receipts.items in
    let have = c.serve_console.new.pass.receipts.items in
    subst (λ (m : Incoming). ServesMessage e c.args.inputs m reads wrote now notes had have c.serve_console.result) (sym c.in-Console.is)
    (console_served e c.args.inputs reads wrote now notes had have c.in-Console.asked c.serve_console.result c.serve_console.ensures.keeps.0 c.serve_console.ensures.served)

pub returns-in-Console-clause-closed : goal.returns-in-Console-clause-closed
returns-in-Console-clause-closed g c = c.serve_console.ensures.keeps.1 ∙ c.requires.none

pub returns-in-Console-clause-counts : goal.returns-in-Console-clause-counts
returns-in-Console-clause-counts g c =
    let exchanges = g.L.Link.exchanges c.args.link.now in
    let keeps = c.serve_console.ensures.keeps in
    counts_none (at_desk c.args.desk.now) c.args.pass.now.notes c.serve_console.new.pass.notes exchanges exchanges keeps.2 keeps.3 refl

pub returns-in-Outside-clause-makes : goal.returns-in-Outside-clause-makes
returns-in-Outside-clause-makes g c =
    subst (λ (m : Incoming). MakesFor (at_desk c.args.desk.now) c.args.inputs m c.args.pass.now.notes c.serve_live.new.pass.notes c.args.pass.now.receipts.items
    c.serve_live.new.pass.receipts.items (g.L.Link.exchanges c.args.link.now) (g.L.Link.exchanges c.serve_live.new.link)) (sym c.in-Outside.is) c.serve_live.ensures.makes

pub returns-in-Live-clause-makes : goal.returns-in-Live-clause-makes
returns-in-Live-clause-makes g c =
    subst (λ (m : Incoming). MakesFor (at_desk c.args.desk.now) c.args.inputs m c.args.pass.now.notes c.serve_call.new.pass.notes c.args.pass.now.receipts.items
    c.serve_call.new.pass.receipts.items (g.L.Link.exchanges c.args.link.now) (g.L.Link.exchanges c.serve_call.new.link)) (sym c.in-Live.is) c.serve_call.ensures.makes

pub returns-in-Set-clause-makes : goal.returns-in-Set-clause-makes
returns-in-Set-clause-makes g c =
    subst (λ (m : Incoming). MakesFor (at_desk c.args.desk.now) c.args.inputs m c.args.pass.now.notes c.serve_set.new.pass.notes c.args.pass.now.receipts.items
    c.serve_set.new.pass.receipts.items (g.L.Link.exchanges c.args.link.now) (g.L.Link.exchanges c.args.link.now)) (sym c.in-Set.is) (c.serve_set.ensures.makes, refl)

pub returns-in-Token-clause-makes : goal.returns-in-Token-clause-makes
returns-in-Token-clause-makes g c =
    subst (λ (m : Incoming). MakesFor (at_desk c.args.desk.now) c.args.inputs m c.args.pass.now.notes c.serve_token.new.pass.notes c.args.pass.now.receipts.items
    c.serve_token.new.pass.receipts.items (g.L.Link.exchanges c.args.link.now) (g.L.Link.exchanges c.args.link.now)) (sym c.in-Token.is) (c.serve_token.ensures.makes, refl)

pub returns-in-Fetch-clause-makes : goal.returns-in-Fetch-clause-makes
returns-in-Fetch-clause-makes g c =
    subst (λ (m : Incoming). MakesFor (at_desk c.args.desk.now) c.args.inputs m c.args.pass.now.notes c.serve_fetch.new.pass.notes c.args.pass.now.receipts.items
    c.serve_fetch.new.pass.receipts.items (g.L.Link.exchanges c.args.link.now) (g.L.Link.exchanges c.args.link.now)) (sym c.in-Fetch.is) (c.serve_fetch.ensures.makes, refl)

pub returns-in-Console-clause-makes : goal.returns-in-Console-clause-makes
returns-in-Console-clause-makes g c =
    subst (λ (m : Incoming). MakesFor (at_desk c.args.desk.now) c.args.inputs m c.args.pass.now.notes c.serve_console.new.pass.notes c.args.pass.now.receipts.items
    c.serve_console.new.pass.receipts.items (g.L.Link.exchanges c.args.link.now) (g.L.Link.exchanges c.args.link.now)) (sym c.in-Console.is) (c.serve_console.ensures.makes, refl)
