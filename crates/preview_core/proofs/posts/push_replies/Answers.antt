use Rattle.preview_core.specs.Posts.{reply_post}
use Rattle.preview_core.proofs.PostLemmas.{some_more}
use Rattle.preview_core.proofs.posts.push_replies.Goals as goal

pub loop-reply-preserved : goal.loop-reply-preserved
loop-reply-preserved c =
    some_more (reply_post c.args.before.now) c.args.list.now c.loop-reply.list c.push_some.new.list c.args.replies.now c.loop-reply.reply-index c.reply-item.result c.reply_post.result
    c.loop-reply-test.true c.reply-item.is c.loop-reply.invariant c.reply_post.ensures c.in_ok-push_some.ensures
