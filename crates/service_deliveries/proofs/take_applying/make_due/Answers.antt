use Rattle.call_registers.specs.Replies.{made_due}
use Rattle.service_deliveries.proofs.ReplyLemmas.{not_found}
use Rattle.service_deliveries.proofs.take_applying.make_due.Goals as goal

pub returns-else-is_some : goal.returns-else-is_some
returns-else-is_some c =
    not_found c.get.result c.is_some.result c.args.id (made_due c.args.since) c.args.replies.now.list c.get.ensures c.is_some.ensures c.if-is_some.false
