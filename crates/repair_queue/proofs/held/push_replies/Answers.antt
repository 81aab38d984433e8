use Rattle.repair_queue.specs.Held.{reply_notice}
use Rattle.repair_queue.proofs.HeldLemmas.{some_more}
use Rattle.repair_queue.proofs.held.push_replies.Goals as goal

pub loop-reply-preserved : goal.loop-reply-preserved
loop-reply-preserved c =
    some_more reply_notice c.args.list.now c.loop-reply.list c.push_some.new.list c.args.replies.now c.loop-reply.reply-index c.reply-item.result c.reply_notice.result
    c.loop-reply-test.true c.reply-item.is c.loop-reply.invariant c.reply_notice.ensures c.in_ok-push_some.ensures
