use Rattle.std.proofs.Common.{◌≡◌, sym, subst, Ok, IfOk}
use Rattle.service_events.specs.State.{after}
use Rattle.service_events.specs.Messages.{posted}
use Rattle.service_events.specs.declared.answers.PostReply.{PostReply}
use Rattle.service_parts.specs.Parts.{kept}
use Rattle.service_deliveries.proofs.posting.met.Goals as goal

pub returns-in-Acked-clause-ok : goal.returns-in-Acked-clause-ok
returns-in-Acked-clause-ok c =
    subst (λ (r : PostReply). IfOk c.acked.result (λ p. after (kept c.acked.new.parts) (Ok p) ≡ posted (kept c.args.parts.now) c.args.post.now r)) (sym c.in-Acked.is) (c.acked.ensures.ok c.args.post.now)

pub returns-in-Given-clause-ok : goal.returns-in-Given-clause-ok
returns-in-Given-clause-ok c =
    subst (λ (r : PostReply). IfOk c.fetched.result (λ p. after (kept c.fetched.new.parts) (Ok p) ≡ posted (kept c.args.parts.now) c.args.post.now r)) (sym c.in-Given.is) (c.fetched.ensures.ok c.args.post.now)
