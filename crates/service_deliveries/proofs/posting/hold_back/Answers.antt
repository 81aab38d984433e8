use Rattle.std.proofs.Common.{◌≡◌, subst, true}
use Rattle.repair_messages.specs.declared.posts.Post.{Post}
use Rattle.service_events.specs.Messages.{is_now}
use Rattle.service_parts.specs.Parts.{kept}
use Rattle.service_deliveries.proofs.PostLemmas.{call_there, reply_there}
use Rattle.service_deliveries.proofs.posting.hold_back.Goals as goal

pub hold-requires : goal.hold-requires
hold-requires c =
    call_there (kept c.args.parts.now) c.in-Set.set (subst (λ (p : Post). is_now (kept c.args.parts.now) p ≡ true) c.in-Set.is c.requires)

pub hold_reply-requires : goal.hold_reply-requires
hold_reply-requires c =
    reply_there (kept c.args.parts.now) c.in-Token.token (subst (λ (p : Post). is_now (kept c.args.parts.now) p ≡ true) c.in-Token.is c.requires)
