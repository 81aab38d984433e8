use Rattle.std.proofs.Common.{false, ap, ◌∙◌, subst}
use Rattle.service_events.specs.State.{Kept}
use Rattle.service_events.specs.Causes.{causes, AddsCauses}
use Rattle.service_events.specs.Commits.{live_rows}
use Rattle.service_events.specs.Doing.{order_memory}
use Rattle.service_events.specs.Orders.{order_event}
use Rattle.service_events.specs.declared.event.Event.TheVariants as events
use Rattle.service_parts.specs.Parts.{kept}
use Rattle.service_parts.proofs.SilentLaws.{event_answers_none}
use Rattle.service_parts.proofs.DoneLaws.{silent_done, untold_done}
use Rattle.service_parts.proofs.UntoldLaws.{event_untold}
use Rattle.service_core.specs.Past.{OrderKeeps}
use Rattle.service_core.proofs.PastLaws.{order_keeps}
use Rattle.service_core.proofs.service.Service.order.Goals as goal

pub returns-clause-past : goal.returns-clause-past
returns-clause-past c =
    let s = kept c.self.inside.parts in
    let t = kept c.order.new.parts in
    subst (λ (k : Kept). OrderKeeps c.args.command k t) c.self.view_is
    (order_keeps s t c.args.command c.args.token c.args.who c.args.inputs c.order.result c.self.invariant.0.fits c.order.ensures.does)

pub returns-clause-silent : goal.returns-clause-silent
returns-clause-silent c =
    let s = kept c.self.inside.parts in
    silent_done order_memory (order_event s c.args.command c.args.token c.args.who c.args.inputs) s (kept c.order.new.parts) c.order.result c.order.ensures.does
    (event_answers_none s (events.Order c.args.command c.args.token c.args.who c.args.inputs) tt)
    ∙ ap (λ (s : Kept). live_rows s.journal) c.self.view_is

pub returns-clause-told : goal.returns-clause-told
returns-clause-told c =
    let s = kept c.self.inside.parts in
    let t = kept c.order.new.parts in
    subst (λ (k : Kept). AddsCauses (causes k) false t) c.self.view_is
    (untold_done order_memory (order_event s c.args.command c.args.token c.args.who c.args.inputs) s t c.order.result c.order.ensures.does (event_untold s (events.Order c.args.command c.args.token c.args.who c.args.inputs) tt))
