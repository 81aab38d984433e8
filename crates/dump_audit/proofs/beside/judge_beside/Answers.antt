use Rattle.dump_audit.proofs.LegalLaws.{legal_where}
use Rattle.dump_audit.proofs.beside.judge_beside.Goals as goal

pub returns-clause-legal : goal.returns-clause-legal
returns-clause-legal g c = legal_where c.args.dump.now.services c.judged_beside.result c.judged_beside.ensures
