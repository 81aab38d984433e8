use Rattle.dump_audit.proofs.LegalLaws.{legal_where}
use Rattle.dump_audit.proofs.judging.judge.Goals as goal

pub returns-clause-legal : goal.returns-clause-legal
returns-clause-legal c = legal_where c.args.dump.now.services c.judged.result c.judged.ensures
