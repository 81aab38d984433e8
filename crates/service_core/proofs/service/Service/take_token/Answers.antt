use Rattle.std.proofs.Common.{false, ap, ◌∙◌, subst}
use Rattle.service_events.specs.State.{Kept}
use Rattle.service_events.specs.Causes.{causes, AddsCauses}
use Rattle.service_events.specs.Commits.{live_rows}
use Rattle.service_events.specs.Doing.{answer_memory}
use Rattle.service_events.specs.Messages.{take_token_event}
use Rattle.service_events.specs.declared.event.Event.TheVariants as events
use Rattle.service_parts.specs.Parts.{kept}
use Rattle.service_parts.proofs.SilentLaws.{event_answers_none}
use Rattle.service_parts.proofs.DoneLaws.{silent_done, untold_done}
use Rattle.service_parts.proofs.UntoldLaws.{event_untold}
use Rattle.service_core.proofs.service.Service.take_token.Goals as goal

pub returns-clause-silent : goal.returns-clause-silent
returns-clause-silent c =
    let s = kept c.self.inside.parts in
    silent_done answer_memory (take_token_event s c.args.token.now) s (kept c.take_token.new.parts) c.take_token.result c.take_token.ensures.does
    (event_answers_none s (events.TakeToken c.args.token.now) tt)
    ∙ ap (λ (s : Kept). live_rows s.journal) c.self.view_is

pub returns-clause-told : goal.returns-clause-told
returns-clause-told c =
    let s = kept c.self.inside.parts in
    let t = kept c.take_token.new.parts in
    subst (λ (k : Kept). AddsCauses (causes k) false t) c.self.view_is
    (untold_done answer_memory (take_token_event s c.args.token.now) s t c.take_token.result c.take_token.ensures.does (event_untold s (events.TakeToken c.args.token.now) tt))
