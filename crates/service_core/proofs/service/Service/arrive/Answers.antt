use Rattle.std.proofs.Common.{false, IfOk, OnOk, subst}
use Rattle.service_events.specs.Arriving.{new_flight}
use Rattle.service_events.specs.Causes.{causes, AddsCauses}
use Rattle.service_events.specs.Commits.{Commits}
use Rattle.service_events.specs.RunsOn.{Begins}
use Rattle.service_events.specs.State.{Kept}
use Rattle.service_parts.specs.Parts.{kept}
use Rattle.service_parts.proofs.ServiceLaws.{rows_few}
use Rattle.service_parts.proofs.CauseLaws.{begins_adds}
use Rattle.service_parts.proofs.DoneLaws.{arrive_done}
use Rattle.service_parts.proofs.RunsOnLaws.{does_arrive}
use Rattle.service_core.proofs.service.Service.arrive.Goals as goal

pub returns-clause-commits : goal.returns-clause-commits
returns-clause-commits c =
    subst (λ (s : Kept). Commits c.args.origin c.args.request c.args.inputs s.newest s c.arrive.result (kept c.arrive.new.parts)) c.self.view_is
    (arrive_done (kept c.self.inside.parts) (kept c.arrive.new.parts) c.args.origin c.args.request c.args.inputs c.arrive.result c.self.invariant.0.fits
    (rows_few c.arrive.new.parts) c.arrive.ensures.does)

pub returns-clause-goes : goal.returns-clause-goes
returns-clause-goes c =
    subst (λ s. IfOk c.arrive.result (λ arrived. Begins s (new_flight s c.args.origin c.args.request c.args.inputs) arrived (kept c.arrive.new.parts))) c.self.view_is
    (does_arrive (kept c.self.inside.parts) (kept c.arrive.new.parts) c.args.origin c.args.request c.args.inputs c.arrive.result c.self.invariant.0.fits
    c.arrive.ensures.does)

pub returns-clause-told : goal.returns-clause-told
returns-clause-told c =
    subst (λ (s : Kept). OnOk c.arrive.result (AddsCauses (causes s) false (kept c.arrive.new.parts))) c.self.view_is
    (begins_adds (kept c.self.inside.parts) (kept c.arrive.new.parts) c.args.origin c.args.request c.args.inputs c.arrive.result c.self.invariant.0.fits.sent.numbered
    (does_arrive (kept c.self.inside.parts) (kept c.arrive.new.parts) c.args.origin c.args.request c.args.inputs c.arrive.result c.self.invariant.0.fits
    c.arrive.ensures.does))
