use Rattle.std.proofs.Common.{IfOk, IsSomeAnd, subst}
use Rattle.service_events.specs.Arriving.{told}
use Rattle.service_events.specs.Causes.{TellsFailed}
use Rattle.service_events.specs.Commits.{CommitsFlight}
use Rattle.service_events.specs.RunsOn.{GoesOnTo}
use Rattle.service_events.specs.State.{after, flight_of}
use Rattle.service_parts.specs.Parts.{kept}
use Rattle.service_parts.proofs.ServiceLaws.{rows_few}
use Rattle.service_parts.proofs.CauseLaws.{failed_adds}
use Rattle.service_parts.proofs.DoneLaws.{call_failed_done}
use Rattle.service_parts.proofs.RunsOnLaws.{does_failed}
use Rattle.service_core.proofs.service.Service.call_failed.Goals as goal

pub returns-clause-commits : goal.returns-clause-commits
returns-clause-commits c =
    subst (λ s. CommitsFlight c.args.flight s c.call_failed.result (kept c.call_failed.new.parts)) c.self.view_is
    (call_failed_done (kept c.self.inside.parts) (kept c.call_failed.new.parts) c.args.flight c.args.number c.args.why c.call_failed.result c.self.invariant.0.fits
    (rows_few c.call_failed.new.parts) c.call_failed.ensures.does)

pub returns-clause-goes : goal.returns-clause-goes
returns-clause-goes c =
    let t = kept c.call_failed.new.parts in
    subst (λ s. IfOk c.call_failed.result (λ arrived. IsSomeAnd (flight_of c.args.flight s)
    (λ f. GoesOnTo (told c.args.number c.args.why s) f (after t arrived)))) c.self.view_is
    (does_failed (kept c.self.inside.parts) t c.args.flight c.args.number c.args.why c.call_failed.result c.self.invariant.0.fits c.call_failed.ensures.does)

pub returns-clause-told : goal.returns-clause-told
returns-clause-told c =
    let t = kept c.call_failed.new.parts in
    subst (λ s. TellsFailed c.args.flight c.args.number c.args.why s c.call_failed.result t) c.self.view_is
    (failed_adds (kept c.self.inside.parts) t c.args.flight c.args.number c.args.why c.call_failed.result c.self.invariant.0.fits.sent.numbered
    (does_failed (kept c.self.inside.parts) t c.args.flight c.args.number c.args.why c.call_failed.result c.self.invariant.0.fits c.call_failed.ensures.does))
