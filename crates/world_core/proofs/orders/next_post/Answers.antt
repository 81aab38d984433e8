use Rattle.service_events.specs.Posts.{write_post}
use Rattle.world_core.proofs.OrderLemmas.{has_message, post_goes}
use Rattle.world_core.proofs.orders.next_post.Goals as goal

pub returns-in-None-clause-goes : goal.returns-in-None-clause-goes
returns-in-None-clause-goes c = post_goes c.args.to.now c.args.service.now c.next_post.result c.next_post.ensures.next c.next_post.ensures.goes

pub returns-in_err-post-in-Some-clause-goes : goal.returns-in_err-post-in-Some-clause-goes
returns-in_err-post-in-Some-clause-goes c = post_goes c.args.to.now c.args.service.now c.next_post.result c.next_post.ensures.next c.next_post.ensures.goes

pub returns-in_ok-post-in-Some-clause-goes : goal.returns-in_ok-post-in-Some-clause-goes
returns-in_ok-post-in-Some-clause-goes c = post_goes c.args.to.now c.args.service.now c.next_post.result c.next_post.ensures.next c.next_post.ensures.goes

pub write_post-requires : goal.write_post-requires
write_post-requires c = has_message c.args.to.now (write_post c.args.service.now c.in-Some.name) c.in-Some.ensures.goes
