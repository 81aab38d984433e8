use Rattle.std.proofs.Common.{IfSome, map, subst}
use Rattle.service_events.specs.Flying.{awaited}
use Rattle.service_events.specs.Posts.{outstanding}
use Rattle.service_parts.specs.Parts.{kept}
use Rattle.repair_queue.specs.Queue.{IsOldest}
use Rattle.service_posts.proofs.PostLaws.{post_first, post_goes}
use Rattle.service_posts.proofs.posting.next_post.Goals as goal

pub returns-clause-first : goal.returns-clause-first
returns-clause-first c =
    let s = kept c.args.parts.now in
    post_first s c.requires.fits c.requires.ages c.args.dest.now c.next.result
    (subst
    (λ flights. IfSome c.next.result (λ n. IsOldest n (outstanding s.registers s.replies (map awaited flights) c.args.dest.now)))
    c.as_slice.ensures.list c.next.ensures.oldest)

pub returns-clause-goes : goal.returns-clause-goes
returns-clause-goes c =
    let s = kept c.args.parts.now in
    post_goes s c.requires.fits c.args.dest.now c.next.result
    (subst
    (λ flights. IfSome c.next.result (λ n. IsOldest n (outstanding s.registers s.replies (map awaited flights) c.args.dest.now)))
    c.as_slice.ensures.list c.next.ensures.oldest)
