use Rattle.std.proofs.Common.{Bool, false, ap, ◌∙◌, sym, subst}
use Rattle.service_events.specs.State.{Kept, After}
use Rattle.service_events.specs.Causes.{causes, AddsCauses}
use Rattle.service_events.specs.Commits.{live_rows}
use Rattle.service_events.specs.declared.event.Event.TheVariants as events
use Rattle.service_parts.specs.Parts.{kept}
use Rattle.service_parts.proofs.SilentLaws.{event_answers_none}
use Rattle.service_parts.proofs.UntoldLaws.{TellsNone, event_untold}
use Rattle.service_core.proofs.service.Service.abandon.Goals as goal

pub returns-clause-silent : goal.returns-clause-silent
returns-clause-silent c =
    ap (λ (a : After Bool). live_rows a.service.journal) c.abandon.ensures.does
    ∙ event_answers_none (kept c.self.inside.parts) (events.Abandon c.args.flight) tt
    ∙ ap (λ (s : Kept). live_rows s.journal) c.self.view_is

pub returns-clause-told : goal.returns-clause-told
returns-clause-told c =
    let s = kept c.self.inside.parts in
    let t = kept c.abandon.new.parts in
    let P : After Bool → Type 0 = λ a. TellsNone s a.service in
    subst (λ (k : Kept). AddsCauses (causes k) false t) c.self.view_is (subst P (sym c.abandon.ensures.does) (event_untold s (events.Abandon c.args.flight) tt))
