use Rattle.script_run.proofs.AuditLaws.{verdict_is, verdict_within}
use Rattle.world_agreement.proofs.LegalLaws.{legal_together}
use Rattle.world_agreement.proofs.TimelyLaws.{joined_timely}
use Rattle.script_run.proofs.reports.judge.Goals as goal

pub returns-clause-same : goal.returns-clause-same
returns-clause-same c = rw c.services-services.ensures.services at (verdict_is c.services-services.result.now c.audit.result c.audit.ensures.verdict)

pub returns-clause-over : goal.returns-clause-over
returns-clause-over c = rw c.services-services.ensures.services at (verdict_within c.services-services.result.now c.audit.result c.audit.ensures.verdict)

pub returns-clause-legal : goal.returns-clause-legal
returns-clause-legal c = λ e.
    let quiet = c.audit.ensures.legal.0 e in
    legal_together c.args.world.now.services (rw c.services-services.ensures.services at c.each_fits.ensures) c.services-services.ensures.differ (rw c.services-services.ensures.services at quiet.0) (rw c.services-services.ensures.services at quiet.1)

pub returns-clause-joined : goal.returns-clause-joined
returns-clause-joined c = λ joined says. c.audit.ensures.forged.0 says (rw c.services-services.ensures.services joined)

pub returns-clause-timely : goal.returns-clause-timely
returns-clause-timely c = joined_timely c.args.world.now.services (rw c.services-services.ensures.services at c.each_fits.ensures) c.services-services.ensures.differ

pub returns-clause-allowed : goal.returns-clause-allowed
returns-clause-allowed c = λ joined.
    rw c.services-services.ensures.services at (c.audit.ensures.allowed (λ says. c.audit.ensures.forged.0 says (rw c.services-services.ensures.services joined)))
