use Rattle.local_repair.specs.Steps.{raised}
use Rattle.call_registers.specs.Replies.{with_answer}
use Rattle.service_parts.proofs.ReplyLemmas.{unchanged}
use Rattle.service_repairs.proofs.book.note_answer.Goals as goal

pub returns-else-has_reply : goal.returns-else-has_reply
returns-else-has_reply c =
    let e = c.args.entry.now in
    unchanged c.has_reply.result e.id (with_answer (raised e.answer_version) e.version c.args.index) c.args.replies.now.list c.has_reply.ensures c.if-has_reply.false
