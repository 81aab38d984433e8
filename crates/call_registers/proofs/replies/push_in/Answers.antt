use Rattle.std.proofs.Common.{arith}
use Rattle.call_registers.proofs.QueueLemmas.{queue_has_room, pushed}
use Rattle.call_registers.proofs.ReplyLemmas.{rising_push}
use Rattle.call_registers.specs.Replies.{due_key}
use Rattle.call_registers.proofs.replies.push_in.Goals as goal

pub exchange-requires-clause-room : goal.exchange-requires-clause-room
exchange-requires-clause-room c =
    let room = queue_has_room due_key c.args.list.now.items c.args.due.now.keys c.args.reply c.args.due.now.places c.requires.queued c.requires.place in
    rw c.due_key-key.ensures (omega arith)

pub returns-clause-rising : goal.returns-clause-rising
returns-clause-rising c = rw c.push_reserved.ensures.items (rising_push c.args.list.now.items c.args.reply c.requires.rising c.requires.above)

pub returns-clause-queued : goal.returns-clause-queued
returns-clause-queued c =
    let exchanged = rw c.due_key-key.ensures at c.exchange.ensures.keys in
    rw c.push_reserved.ensures.items (pushed due_key c.args.list.now.items c.args.due.now.keys c.exchange.new.self.keys c.args.reply c.requires.queued exchanged)
