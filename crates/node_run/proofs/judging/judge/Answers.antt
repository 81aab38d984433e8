use Rattle.world_agreement.proofs.LegalLaws.{legal_together}
use Rattle.node_run.proofs.JudgingLemmas.{verdict_within}
use Rattle.node_run.proofs.judging.judge.Goals as goal

pub returns-clause-over : goal.returns-clause-over
returns-clause-over c = verdict_within c.args.services.now c.audit.result c.audit.ensures.verdict

pub returns-clause-legal : goal.returns-clause-legal
returns-clause-legal c = λ differ e.
    let quiet = c.audit.ensures.legal.0 e in
    legal_together c.args.services.now c.look_at_all.ensures.fits differ quiet.0 quiet.1
