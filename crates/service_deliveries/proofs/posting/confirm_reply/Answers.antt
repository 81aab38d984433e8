use Rattle.std.proofs.Common.{◌≡◌, subst, true}
use Rattle.repair_messages.specs.declared.posts.Post.{Post}
use Rattle.service_events.specs.Messages.{had}
use Rattle.service_parts.specs.Parts.{kept}
use Rattle.service_deliveries.proofs.PostLemmas.{had_reply}
use Rattle.service_deliveries.proofs.posting.confirm_reply.Goals as goal

pub confirmed-requires : goal.confirmed-requires
confirmed-requires c =
    had_reply (kept c.args.parts.now) c.in-Token.token (subst (λ (p : Post). had (kept c.args.parts.now) p ≡ true) c.in-Token.is c.requires)
