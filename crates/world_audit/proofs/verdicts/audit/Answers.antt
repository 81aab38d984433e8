use Rattle.world_audit.proofs.VerdictLemmas.{legal_exactly, forged_exactly, unsettled_exactly}
use Rattle.world_audit.proofs.verdicts.audit.Goals as goal

pub returns-clause-legal : goal.returns-clause-legal
returns-clause-legal c = legal_exactly c.args.services.now c.judged.result c.judged.ensures.verdict

pub returns-clause-forged : goal.returns-clause-forged
returns-clause-forged c = forged_exactly c.args.services.now c.judged.result c.judged.ensures.verdict

pub returns-clause-unsettled : goal.returns-clause-unsettled
returns-clause-unsettled c = unsettled_exactly c.args.services.now c.judged.result c.judged.ensures.verdict
