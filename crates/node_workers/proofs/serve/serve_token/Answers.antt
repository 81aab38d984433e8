use Rattle.std.proofs.Common.{inl, Result, Some, ◌∙◌, ap, refl, subst}
use Rattle.aire_wire.specs.declared.incoming.Incoming.TheVariants.{Token}
use Rattle.service_events.specs.declared.answers.Heard.{Heard}
use Rattle.service_events.specs.declared.refusals.AnswerRefused.{AnswerRefused}
use Rattle.node_workers.proofs.ServeLemmas.{token_heard, token_refused, confirm_for, message_dropped, message_wants}
use Rattle.node_core.specs.declared.notes.Notes.{Notes}
use Rattle.node_workers.specs.Desks.{at_desk}
use Rattle.node_workers.specs.Messages.{IsHeardSo}
use Rattle.node_workers.proofs.serve.serve_token.Goals as goal

pub returns-in_default-clause-served : goal.returns-in_default-clause-served
returns-in_default-clause-served g c =
    let writes = g.C.Sink.writes c.args.conn.now in
    let receipts = c.args.pass.now.receipts.items in
    message_dropped (at_desk c.args.desk.now) c.args.inputs (g.C.Source.reads c.args.conn.now) writes writes c.args.pass.now.notes receipts receipts (Token c.args.token) refl refl

pub say-requires : goal.say-requires
say-requires g c =
    let notes = c.take_token.new.pass.notes in
    let so = subst (λ (h : Result Heard AnswerRefused). IsHeardSo c.args.token notes h) c.in-Ok-Ok.field-0-is c.in-Ok-Ok.ensures.heard in
    confirm_for (at_desk c.args.desk.now).me c.in-Ok.to c.args.token notes c.in-Ok-Ok.heard so c.requires.caller c.in-Ok.ensures

pub returns-in-Ok-Ok-clause-served : goal.returns-in-Ok-Ok-clause-served
returns-in-Ok-Ok-clause-served g c =
    let notes = c.take_token.new.pass.notes in
    let so = subst (λ (h : Result Heard AnswerRefused). IsHeardSo c.args.token notes h) c.in-Ok-Ok.field-0-is c.in-Ok-Ok.ensures.heard in
    token_heard (at_desk c.args.desk.now) c.args.inputs (g.C.Source.reads c.args.conn.now) (g.C.Sink.writes c.args.conn.now) (g.C.Sink.writes c.say.new.conn) notes
    c.args.pass.now.receipts.items c.take_token.new.pass.receipts.items c.args.token c.in-Ok.to c.in-Ok-Ok.heard c.say.result c.in-Ok.ensures so
    c.take_token.ensures.keeps.0 c.say.ensures.said

pub returns-in-Ok-Err-clause-served : goal.returns-in-Ok-Err-clause-served
returns-in-Ok-Err-clause-served g c =
    let notes = c.take_token.new.pass.notes in
    let so = subst (λ (h : Result Heard AnswerRefused). IsHeardSo c.args.token notes h) c.in-Ok-Err.field-0-is c.in-Ok-Err.ensures.heard in
    let told = c.answer_told-number.result in
    token_refused (at_desk c.args.desk.now) c.args.inputs (g.C.Source.reads c.args.conn.now) (g.C.Sink.writes c.args.conn.now) (g.C.Sink.writes c.refuse.new.conn) notes
    c.args.pass.now.receipts.items c.take_token.new.pass.receipts.items c.args.token c.in-Ok.to c.in-Ok-Err.why (told.0.now, told.1) c.refuse.result c.in-Ok.ensures so
    c.take_token.ensures.keeps.0 c.answer_told-number.ensures.told c.refuse.ensures.said

pub returns-clause-served : goal.returns-clause-served
returns-clause-served g c =
    message_wants (at_desk c.args.desk.now) c.args.inputs (g.C.Source.reads c.args.conn.now) (g.C.Sink.writes c.args.conn.now) (g.C.Sink.writes c.say_no_memory.new.conn)
    c.take_token.new.pass.notes c.args.pass.now.receipts.items c.take_token.new.pass.receipts.items (Token c.args.token) (Some c.in-Ok.to) c.say_no_memory.result
    (ap Some c.in-Ok.ensures) (ap (λ (n : Notes). n.gave) c.in-Err.ensures.err ∙ c.requires.fresh) c.take_token.ensures.keeps.0 c.say_no_memory.ensures.said

pub returns-in_default-clause-makes : goal.returns-in_default-clause-makes
returns-in_default-clause-makes g c = inl (refl, refl)

pub returns-in-Ok-Ok-clause-makes : goal.returns-in-Ok-Ok-clause-makes
returns-in-Ok-Ok-clause-makes g c = c.take_token.ensures.makes

pub returns-in-Ok-Err-clause-makes : goal.returns-in-Ok-Err-clause-makes
returns-in-Ok-Err-clause-makes g c = c.take_token.ensures.makes

pub returns-clause-makes : goal.returns-clause-makes
returns-clause-makes g c = c.take_token.ensures.makes
