use Rattle.std.proofs.Common.{◌≡◌, ◌↔◌, sym, subst, map, [], None}
use Rattle.service_events.specs.Flying.{awaited}
use Rattle.service_events.specs.Posts.{outstanding}
use Rattle.repair_queue.proofs.QueueLemmas.{next_is, none_is, oldest_is}
use Rattle.repair_queue.proofs.oldest.next.Goals as goal

pub returns-clause-next : goal.returns-clause-next
returns-clause-next c =
    next_is c.args.registers.now.list c.args.replies.now.list (map awaited c.args.flights.now) c.args.dest.now c.oldest_call-call.result c.oldest_reply-reply.result c.oldest_fetch-fetch.result c.older_of-first.result c.older_of.result c.name_of.result
    c.oldest_call-call.ensures c.oldest_reply-reply.ensures c.oldest_fetch-fetch.ensures c.older_of-first.ensures c.older_of.ensures c.name_of.ensures

pub returns-clause-none : goal.returns-clause-none
returns-clause-none c =
    let posts = outstanding c.args.registers.now.list c.args.replies.now.list (map awaited c.args.flights.now) c.args.dest.now in
    subst (λ r. (r ≡ None) ↔ (posts ≡ [])) (sym (returns-clause-next c)) (none_is posts)

pub returns-clause-oldest : goal.returns-clause-oldest
returns-clause-oldest c =
    oldest_is (outstanding c.args.registers.now.list c.args.replies.now.list (map awaited c.args.flights.now) c.args.dest.now) c.name_of.result (returns-clause-next c)
