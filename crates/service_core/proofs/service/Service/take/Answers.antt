use Rattle.std.proofs.Common.{false, ap, ◌∙◌, subst}
use Rattle.service_events.specs.State.{Kept}
use Rattle.service_events.specs.Causes.{causes, AddsCauses}
use Rattle.service_events.specs.Commits.{live_rows}
use Rattle.service_events.specs.Doing.{take_memory}
use Rattle.service_events.specs.Messages.{take_event}
use Rattle.service_events.specs.declared.event.Event.TheVariants as events
use Rattle.service_parts.specs.Parts.{kept}
use Rattle.service_parts.proofs.SilentLaws.{event_answers_none}
use Rattle.service_parts.proofs.DoneLaws.{silent_done, untold_done}
use Rattle.service_parts.proofs.UntoldLaws.{event_untold}
use Rattle.service_core.proofs.service.Service.take.Goals as goal

pub returns-clause-silent : goal.returns-clause-silent
returns-clause-silent c =
    let s = kept c.self.inside.parts in
    silent_done take_memory (take_event s c.args.set.now c.args.inputs) s (kept c.take.new.parts) c.take.result c.take.ensures.does
    (event_answers_none s (events.Take c.args.set.now c.args.inputs) tt)
    ∙ ap (λ (s : Kept). live_rows s.journal) c.self.view_is

pub returns-clause-told : goal.returns-clause-told
returns-clause-told c =
    let s = kept c.self.inside.parts in
    let t = kept c.take.new.parts in
    subst (λ (k : Kept). AddsCauses (causes k) false t) c.self.view_is
    (untold_done take_memory (take_event s c.args.set.now c.args.inputs) s t c.take.result c.take.ensures.does (event_untold s (events.Take c.args.set.now c.args.inputs) tt))
