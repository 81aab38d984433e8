use Rattle.std.proofs.Common.{inl, Result, Some, ◌∙◌, ap, refl, subst}
use Rattle.aire_wire.specs.declared.incoming.Incoming.TheVariants.{Set}
use Rattle.service_events.specs.declared.answers.Taken.{Taken}
use Rattle.service_events.specs.declared.refusals.TakeRefused.{TakeRefused}
use Rattle.node_workers.proofs.ServeLemmas.{ack_for, message_dropped, message_wants, set_refused, set_taken}
use Rattle.node_core.specs.declared.notes.Notes.{Notes}
use Rattle.node_workers.specs.Desks.{at_desk}
use Rattle.node_workers.specs.Messages.{IsTakenSo}
use Rattle.node_workers.proofs.serve.serve_set.Goals as goal

pub returns-in_default-clause-served : goal.returns-in_default-clause-served
returns-in_default-clause-served g c =
    let writes = g.C.Sink.writes c.args.conn.now in
    let receipts = c.args.pass.now.receipts.items in
    message_dropped (at_desk c.args.desk.now) c.args.inputs (g.C.Source.reads c.args.conn.now) writes writes c.args.pass.now.notes receipts receipts (Set c.args.set) refl refl

pub say-requires : goal.say-requires
say-requires g c =
    let notes = c.take.new.pass.notes in
    let taken = c.in-Ok-Ok.taken in
    let so = subst (λ (t : Result Taken TakeRefused). IsTakenSo c.args.set c.args.inputs notes t) c.in-Ok-Ok.field-0-is c.in-Ok-Ok.ensures.taken in
    ack_for (at_desk c.args.desk.now).me c.in-Ok.to c.args.set c.args.inputs notes taken so c.requires.dest c.in-Ok.ensures

pub returns-in-Ok-Ok-clause-served : goal.returns-in-Ok-Ok-clause-served
returns-in-Ok-Ok-clause-served g c =
    let notes = c.take.new.pass.notes in
    let so = subst (λ (t : Result Taken TakeRefused). IsTakenSo c.args.set c.args.inputs notes t) c.in-Ok-Ok.field-0-is c.in-Ok-Ok.ensures.taken in
    set_taken (at_desk c.args.desk.now) c.args.inputs (g.C.Source.reads c.args.conn.now) (g.C.Sink.writes c.args.conn.now) (g.C.Sink.writes c.say.new.conn) notes
    c.args.pass.now.receipts.items c.take.new.pass.receipts.items c.args.set c.in-Ok.to c.in-Ok-Ok.taken c.say.result c.in-Ok.ensures so c.take.ensures.keeps.0 c.say.ensures.said

pub returns-in-Ok-Err-clause-served : goal.returns-in-Ok-Err-clause-served
returns-in-Ok-Err-clause-served g c =
    let notes = c.take.new.pass.notes in
    let so = subst (λ (t : Result Taken TakeRefused). IsTakenSo c.args.set c.args.inputs notes t) c.in-Ok-Err.field-0-is c.in-Ok-Err.ensures.taken in
    let told = c.take_told-number.result in
    set_refused (at_desk c.args.desk.now) c.args.inputs (g.C.Source.reads c.args.conn.now) (g.C.Sink.writes c.args.conn.now) (g.C.Sink.writes c.refuse.new.conn) notes
    c.args.pass.now.receipts.items c.take.new.pass.receipts.items c.args.set c.in-Ok.to c.in-Ok-Err.why (told.0.now, told.1) c.refuse.result c.in-Ok.ensures so
    c.take.ensures.keeps.0 c.take_told-number.ensures.told c.refuse.ensures.said

pub returns-clause-served : goal.returns-clause-served
returns-clause-served g c =
    message_wants (at_desk c.args.desk.now) c.args.inputs (g.C.Source.reads c.args.conn.now) (g.C.Sink.writes c.args.conn.now) (g.C.Sink.writes c.say_no_memory.new.conn)
    c.take.new.pass.notes c.args.pass.now.receipts.items c.take.new.pass.receipts.items (Set c.args.set) (Some c.in-Ok.to) c.say_no_memory.result (ap Some c.in-Ok.ensures)
    (ap (λ (n : Notes). n.gave) c.in-Err.ensures.err ∙ c.requires.fresh) c.take.ensures.keeps.0 c.say_no_memory.ensures.said

pub returns-in_default-clause-makes : goal.returns-in_default-clause-makes
returns-in_default-clause-makes g c = inl (refl, refl)

pub returns-in-Ok-Ok-clause-makes : goal.returns-in-Ok-Ok-clause-makes
returns-in-Ok-Ok-clause-makes g c = c.take.ensures.makes

pub returns-in-Ok-Err-clause-makes : goal.returns-in-Ok-Err-clause-makes
returns-in-Ok-Err-clause-makes g c = c.take.ensures.makes

pub returns-clause-makes : goal.returns-clause-makes
returns-clause-makes g c = c.take.ensures.makes
