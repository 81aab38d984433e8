use Rattle.std.proofs.Common.{IfSome, subst}
use Rattle.service_events.specs.Ages.{GoesFirst}
use Rattle.service_events.specs.State.{Kept}
use Rattle.service_core.proofs.service.Service.next_post.Goals as goal

pub returns-clause-first : goal.returns-clause-first
returns-clause-first c =
    subst (λ (s : Kept). IfSome c.next_post.result (λ name. GoesFirst c.args.dest.now s name)) c.self.view_is c.next_post.ensures.first
