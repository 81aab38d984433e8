use Rattle.preview_core.specs.Posts.{call_post}
use Rattle.preview_core.proofs.PostLemmas.{some_more}
use Rattle.preview_core.proofs.posts.push_calls.Goals as goal

pub loop-register-preserved : goal.loop-register-preserved
loop-register-preserved c =
    some_more (call_post c.args.before.now c.args.after.now) c.args.list.now c.loop-register.list c.push_some.new.list c.args.registers.now c.loop-register.register-index c.register-item.result c.call_post.result
    c.loop-register-test.true c.register-item.is c.loop-register.invariant c.call_post.ensures c.in_ok-push_some.ensures
