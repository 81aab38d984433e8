use Rattle.std.proofs.Common.{false, ap, ◌∙◌, subst}
use Rattle.service_events.specs.State.{Kept}
use Rattle.service_events.specs.Causes.{causes, AddsCauses}
use Rattle.service_events.specs.Commits.{live_rows}
use Rattle.service_events.specs.Doing.{post_memory}
use Rattle.service_events.specs.Messages.{posted_event}
use Rattle.service_events.specs.declared.event.Event.TheVariants as events
use Rattle.service_parts.specs.Parts.{kept}
use Rattle.service_parts.proofs.SilentLaws.{event_answers_none}
use Rattle.service_parts.proofs.DoneLaws.{silent_done, untold_done}
use Rattle.service_parts.proofs.UntoldLaws.{event_untold}
use Rattle.service_core.proofs.service.Service.posted.Goals as goal

pub returns-clause-silent : goal.returns-clause-silent
returns-clause-silent c =
    let s = kept c.self.inside.parts in
    silent_done post_memory (posted_event s c.args.post.now c.args.reply) s (kept c.posted.new.parts) c.posted.result c.posted.ensures.does
    (event_answers_none s (events.Posted c.args.post.now c.args.reply) tt)
    ∙ ap (λ (s : Kept). live_rows s.journal) c.self.view_is

pub returns-clause-told : goal.returns-clause-told
returns-clause-told c =
    let s = kept c.self.inside.parts in
    let t = kept c.posted.new.parts in
    subst (λ (k : Kept). AddsCauses (causes k) false t) c.self.view_is
    (untold_done post_memory (posted_event s c.args.post.now c.args.reply) s t c.posted.result c.posted.ensures.does (event_untold s (events.Posted c.args.post.now c.args.reply) tt))
