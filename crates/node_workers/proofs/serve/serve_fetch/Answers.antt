use Rattle.std.proofs.Common.{inl, Result, Some, ◌∙◌, ap, refl, subst}
use Rattle.aire_wire.specs.declared.incoming.Incoming.TheVariants.{Fetch}
use Rattle.repair_messages.specs.declared.messages.AnswerMessage.{AnswerMessage}
use Rattle.service_events.specs.declared.refusals.GiveRefused.{GiveRefused}
use Rattle.node_workers.proofs.ServeLemmas.{fetch_given, fetch_refused, given_for, message_dropped, message_wants}
use Rattle.node_core.specs.declared.notes.Notes.{Notes}
use Rattle.node_workers.specs.Desks.{at_desk}
use Rattle.node_workers.specs.Messages.{IsGivenSo}
use Rattle.node_workers.proofs.serve.serve_fetch.Goals as goal

pub returns-in_default-clause-served : goal.returns-in_default-clause-served
returns-in_default-clause-served g c =
    let writes = g.C.Sink.writes c.args.conn.now in
    let receipts = c.args.pass.now.receipts.items in
    message_dropped (at_desk c.args.desk.now) c.args.inputs (g.C.Source.reads c.args.conn.now) writes writes c.args.pass.now.notes receipts receipts (Fetch c.args.fetch) refl refl

pub say_known-requires : goal.say_known-requires
say_known-requires g c =
    let me = (at_desk c.args.desk.now).me in
    let notes = c.give.new.pass.notes in
    let so = subst (λ (r : Result AnswerMessage GiveRefused). IsGivenSo me c.args.fetch notes r) c.in-Ok-Ok.field-0-is c.in-Ok-Ok.ensures.given in
    let both = given_for me c.in-Ok.to c.args.fetch c.in-Ok-Ok.answer notes so c.in-Ok.ensures in
    record { from = both.0; to = both.1 }

pub returns-in-Ok-Ok-clause-served : goal.returns-in-Ok-Ok-clause-served
returns-in-Ok-Ok-clause-served g c =
    let e = at_desk c.args.desk.now in
    let notes = c.give.new.pass.notes in
    let so = subst (λ (r : Result AnswerMessage GiveRefused). IsGivenSo e.me c.args.fetch notes r) c.in-Ok-Ok.field-0-is c.in-Ok-Ok.ensures.given in
    fetch_given e c.args.inputs (g.C.Source.reads c.args.conn.now) (g.C.Sink.writes c.args.conn.now) (g.C.Sink.writes c.say_known.new.conn) notes
    c.args.pass.now.receipts.items c.give.new.pass.receipts.items c.args.fetch c.in-Ok.to c.in-Ok-Ok.answer c.say_known.result c.in-Ok.ensures so c.give.ensures.keeps.0
    c.say_known.ensures.said

pub returns-in-Ok-Err-clause-served : goal.returns-in-Ok-Err-clause-served
returns-in-Ok-Err-clause-served g c =
    let e = at_desk c.args.desk.now in
    let notes = c.give.new.pass.notes in
    let so = subst (λ (r : Result AnswerMessage GiveRefused). IsGivenSo e.me c.args.fetch notes r) c.in-Ok-Err.field-0-is c.in-Ok-Err.ensures.given in
    let told = c.give_told-number.result in
    fetch_refused e c.args.inputs (g.C.Source.reads c.args.conn.now) (g.C.Sink.writes c.args.conn.now) (g.C.Sink.writes c.refuse.new.conn) notes
    c.args.pass.now.receipts.items c.give.new.pass.receipts.items c.args.fetch c.in-Ok.to c.in-Ok-Err.why (told.0.now, told.1) c.refuse.result c.in-Ok.ensures so
    c.give.ensures.keeps.0 c.give_told-number.ensures.told c.refuse.ensures.said

pub returns-clause-served : goal.returns-clause-served
returns-clause-served g c =
    message_wants (at_desk c.args.desk.now) c.args.inputs (g.C.Source.reads c.args.conn.now) (g.C.Sink.writes c.args.conn.now) (g.C.Sink.writes c.say_no_memory.new.conn)
    c.give.new.pass.notes c.args.pass.now.receipts.items c.give.new.pass.receipts.items (Fetch c.args.fetch) (Some c.in-Ok.to) c.say_no_memory.result (ap Some c.in-Ok.ensures)
    (ap (λ (n : Notes). n.gave) c.in-Err.ensures.err ∙ c.requires.fresh) c.give.ensures.keeps.0 c.say_no_memory.ensures.said

pub returns-in_default-clause-makes : goal.returns-in_default-clause-makes
returns-in_default-clause-makes g c = inl (refl, refl)

pub returns-in-Ok-Ok-clause-makes : goal.returns-in-Ok-Ok-clause-makes
returns-in-Ok-Ok-clause-makes g c = c.give.ensures.makes

pub returns-in-Ok-Err-clause-makes : goal.returns-in-Ok-Err-clause-makes
returns-in-Ok-Err-clause-makes g c = c.give.ensures.makes

pub returns-clause-makes : goal.returns-clause-makes
returns-clause-makes g c = c.give.ensures.makes
