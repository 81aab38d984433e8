-- A journal's rows, and what a worker's pass keeps of its events, may go to another thread. An order may bring a program, so what holds
-- orders does so by a lemma of its own.
use Prim.{tt}
use denote.RattleType.{RattleType}
use denote.Param.Send.{IsSend, sendable, struct_send, recorded_send, view_send}
use denote.Struct.Declared.{shape}
use Rattle.std.proofs.Crossing.{crosses}
use Rattle.std.proofs.sync.ledger.Share.TheSendSync as share
use Rattle.std.specs.declared.sync.ledger.Ledger.{Ghosts}
use Rattle.sqlite_items.proofs.boxed.Boxed.TheSendSync as boxed
use Rattle.lang_base.proofs.bytes.Bytes.TheSendSync as bytes
use Rattle.lang_base.proofs.text.Text.TheSendSync as text
use Rattle.lang_lists.proofs.hash_index.HashIndex.TheSendSync as hash
use Rattle.lang_tree.proofs.method.Method.TheSendSync as method
use Rattle.lang_tree.proofs.shared.Shared.TheSendSync as shared
use Rattle.lang_core.proofs.ids.Name.TheSendSync as name
use Rattle.lang_core.proofs.ids.Origin.TheSendSync as origin
use Rattle.lang_core.proofs.inputs.Inputs.TheSendSync as inputs
use Rattle.lang_core.proofs.request.Request.TheSendSync as request
use Rattle.lang_programs.proofs.ProgramSends.{text_send, text_sync}
use Rattle.authorise_rules.proofs.given.GivenRules.TheSendSync as given
use Rattle.repair_messages.proofs.messages.AnswerMessage.TheSendSync as answer
use Rattle.repair_messages.proofs.messages.Fetch.TheSendSync as fetch
use Rattle.repair_messages.proofs.messages.SetMessage.TheSendSync as set
use Rattle.repair_messages.proofs.messages.TokenMessage.TheSendSync as token
use Rattle.repair_messages.proofs.posts.Post.TheSendSync as post
use Rattle.repair_messages.proofs.posts.PostName.TheSendSync as post_name
use Rattle.call_registers.proofs.register.Why.TheSendSync as why
use Rattle.journal_rows.proofs.callee.AckedRow.TheSendSync as acked
use Rattle.journal_rows.proofs.callee.AnsweredRow.TheSendSync as answered
use Rattle.journal_rows.proofs.callee.AskedRow.TheSendSync as asked
use Rattle.journal_rows.proofs.callee.TookRow.TheSendSync as took
use Rattle.journal_rows.proofs.callee.WasConfirmedRow.TheSendSync as was_confirmed
use Rattle.journal_rows.proofs.caller.ConfirmedRow.TheSendSync as confirmed
use Rattle.journal_rows.proofs.caller.NotedRow.TheSendSync as noted
use Rattle.journal_rows.proofs.caller.SawAckRow.TheSendSync as saw_ack
use Rattle.journal_rows.proofs.caller.SawAnswerRow.TheSendSync as saw_answer
use Rattle.journal_rows.proofs.caller.SentRow.TheSendSync as sent
use Rattle.journal_rows.proofs.orders.About.TheSendSync as about
use Rattle.journal_rows.specs.contracts.orders.Command as command
use Rattle.journal_rows.specs.contracts.orders.OrderedRow as ordered
use Rattle.journal_rows.specs.contracts.row.Row as row
use Rattle.journal_rows.specs.contracts.rows.Rows as rows
use Rattle.journal_rows.specs.contracts.rows.Rows.TheInside as rows_inside
use Rattle.service_events.proofs.answers.PostReply.TheSendSync as post_reply
use Rattle.service_events.proofs.event.Done.TheSendSync as done
use Rattle.service_events.specs.contracts.event.Event as event
use Rattle.node_core.proofs.notes.Begun.TheSendSync as begun
use Rattle.node_core.proofs.notes.Posting.TheSendSync as posting
use Rattle.node_core.proofs.notes.Turn.TheSendSync as turn
use Rattle.node_core.specs.contracts.notes.Gave as gave
use Rattle.node_core.specs.contracts.notes.LastGave as last
use Rattle.node_core.specs.contracts.notes.LastGave.TheInside as last_inside
use Rattle.node_core.specs.contracts.notes.Notes as notes
use Rattle.node_core.specs.contracts.orders.OrderNote as note
use Rattle.node_core.specs.contracts.orders.OrderNotes as order_notes
use Rattle.node_core.specs.contracts.orders.OrderNotes.TheInside as orders_inside
use Rattle.node_core.specs.contracts.receipt.Receipt as receipt
use Rattle.node_core.specs.contracts.pass.Pass as pass

-- ---- orders and rows

command_send : IsSend command.the_field.row
command_send = search (sendable, crosses, text.the_send, method.the_field_send, request.the_field_send, post_name.the_field_send, shared.the_send _ text_send text_sync, shared.the_send _ given.the_send given.the_sync) depth 40

ordered_field_send : IsSend ordered.the_field.row
ordered_field_send = struct_send (shape ordered.the_type)
    (text.the_send, (command_send, (text.the_send, (search sendable, (search (sendable, crosses, request.the_send) depth 10, (search (sendable, crosses, request.the_send) depth 10, (about.the_field_send, tt)))))))

ordered_send : IsSend ordered.the_row
ordered_send = recorded_send ordered.the_field.row _ _ ordered.the_type.to_one ordered_field_send

row_field_send : IsSend row.the_field.row
row_field_send = search (sendable, asked.the_field_send, took.the_field_send, acked.the_field_send, answered.the_field_send, was_confirmed.the_field_send, sent.the_field_send, saw_ack.the_field_send, noted.the_field_send, saw_answer.the_field_send, confirmed.the_field_send, boxed.the_send, ordered_send) depth 40

row_send : IsSend row.the_row
row_send = recorded_send row.the_field.row _ _ row.the_type.to_one row_field_send

pub rows_send : IsSend rows.the_row
rows_send = view_send _ _ _ _ _ (recorded_send rows_inside.the_field.row _ _ rows_inside.the_type.to_one (struct_send (shape rows_inside.the_type)
    (search (crosses, row_send) depth 10, (hash.the_send, (search sendable, (search sendable, tt))))))

-- ---- notes of a pass

event_send : IsSend event.the_field.row
event_send = search (sendable, origin.the_field_send, request.the_field_send, inputs.the_field_send, answer.the_field_send, why.the_field_send, set.the_field_send, token.the_field_send, fetch.the_field_send, name.the_send, post_name.the_field_send, post.the_field_send, post_reply.the_field_send, command_send, text.the_send) depth 40

gave_send : IsSend gave.the_row
gave_send = recorded_send gave.the_field.row _ _ gave.the_type.to_one (struct_send (shape gave.the_type) (event_send, (done.the_field_send, tt)))

last_send : IsSend last.the_row
last_send = view_send _ _ _ _ _ (recorded_send last_inside.the_field.row _ _ last_inside.the_type.to_one (struct_send (shape last_inside.the_type) (search (crosses, gave_send) depth 10, tt)))

note_send : IsSend note.the_row
note_send = recorded_send note.the_field.row _ _ note.the_type.to_one (struct_send (shape note.the_type) (name.the_send, (search sendable, (ordered_field_send, tt))))

order_notes_send : IsSend order_notes.the_row
order_notes_send = view_send _ _ _ _ _ (recorded_send orders_inside.the_field.row _ _ orders_inside.the_type.to_one (struct_send (shape orders_inside.the_type) (search (crosses, note_send) depth 10, tt)))

notes_send : IsSend notes.the_field.row
notes_send = struct_send (shape notes.the_type)
    (search (sendable, crosses, begun.the_send) depth 10, (search (sendable, crosses, turn.the_send) depth 10, (search (sendable, crosses, posting.the_send) depth 10, (last_send, (order_notes_send, (search sendable, (search sendable, (search sendable, tt))))))))

receipt_send : IsSend receipt.the_row
receipt_send = recorded_send receipt.the_field.row _ _ receipt.the_type.to_one (struct_send (shape receipt.the_type)
    (name.the_send, (search sendable, (request.the_field_send, (inputs.the_field_send, (row_field_send, (text.the_send, (bytes.the_send, tt))))))))

pub pass_send : (Q : RattleType) (g : Ghosts Q.Denot) → IsSend (pass.the_field Q g).row
pass_send Q g = struct_send (shape (pass.the_type Q g)) (share.the_send Q g, (search (crosses, receipt_send) depth 10, (notes_send, tt)))

-- a pass by itself, which is what a job gives back
pub pass_row_send : (Q : RattleType) (g : Ghosts Q.Denot) → IsSend (pass.the_row Q g)
pass_row_send Q g = recorded_send (pass.the_field Q g).row _ _ (pass.the_type Q g).to_one (pass_send Q g)
