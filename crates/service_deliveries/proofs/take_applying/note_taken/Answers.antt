use Rattle.call_registers.specs.Replies.{with_taken}
use Rattle.service_deliveries.proofs.ReplyLemmas.{not_found}
use Rattle.service_deliveries.proofs.take_applying.note_taken.Goals as goal

pub returns-else-is_some : goal.returns-else-is_some
returns-else-is_some c =
    not_found c.get.result c.is_some.result c.args.id (with_taken c.args.version c.args.wanted) c.args.replies.now.list c.get.ensures c.is_some.ensures c.if-is_some.false
