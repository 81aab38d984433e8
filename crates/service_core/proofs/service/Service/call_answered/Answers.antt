use Rattle.std.proofs.Common.{IfOk, IsSomeAnd, subst}
use Rattle.service_events.specs.Arriving.{live_answer_rows}
use Rattle.service_events.specs.Calls.{noted}
use Rattle.service_events.specs.Causes.{TellsAnswered}
use Rattle.service_events.specs.Commits.{CommitsFlight}
use Rattle.service_events.specs.RunsOn.{GoesOnTo}
use Rattle.service_events.specs.State.{after, flight_of}
use Rattle.service_parts.specs.Parts.{kept}
use Rattle.service_parts.proofs.ServiceLaws.{rows_few}
use Rattle.service_parts.proofs.CauseLaws.{answered_adds}
use Rattle.service_parts.proofs.DoneLaws.{call_answered_done}
use Rattle.service_parts.proofs.RunsOnLaws.{does_answered}
use Rattle.service_core.proofs.service.Service.call_answered.Goals as goal

pub returns-clause-commits : goal.returns-clause-commits
returns-clause-commits c =
    subst (λ s. CommitsFlight c.args.flight s c.call_answered.result (kept c.call_answered.new.parts)) c.self.view_is
    (call_answered_done (kept c.self.inside.parts) (kept c.call_answered.new.parts) c.args.flight c.args.answer.now c.call_answered.result c.self.invariant.0.fits
    (rows_few c.call_answered.new.parts) c.call_answered.ensures.does)

pub returns-clause-goes : goal.returns-clause-goes
returns-clause-goes c =
    let t = kept c.call_answered.new.parts in
    subst (λ s. IfOk c.call_answered.result (λ arrived. IsSomeAnd (flight_of c.args.flight s)
    (λ f. GoesOnTo (noted (live_answer_rows s c.args.answer.now) s) f (after t arrived)))) c.self.view_is
    (does_answered (kept c.self.inside.parts) t c.args.flight c.args.answer.now c.call_answered.result c.self.invariant.0.fits c.call_answered.ensures.does)

pub returns-clause-told : goal.returns-clause-told
returns-clause-told c =
    let t = kept c.call_answered.new.parts in
    subst (λ s. TellsAnswered c.args.flight c.args.answer.now s c.call_answered.result t) c.self.view_is
    (answered_adds (kept c.self.inside.parts) t c.args.flight c.args.answer.now c.call_answered.result c.self.invariant.0.fits.sent.numbered
    (does_answered (kept c.self.inside.parts) t c.args.flight c.args.answer.now c.call_answered.result c.self.invariant.0.fits c.call_answered.ensures.does))
