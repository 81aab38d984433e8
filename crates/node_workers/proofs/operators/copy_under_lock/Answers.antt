use Rattle.node_workers.proofs.OperatorLemmas.{copied_of}
use Rattle.node_workers.specs.Desks.{at_desk}
use Rattle.node_workers.proofs.operators.copy_under_lock.Goals as goal

pub returns-clause-of : goal.returns-clause-of
returns-clause-of g c = copied_of (at_desk c.args.desk.now).me c.args.service.now c.copied.result (c.is_service_of.ensures c.if-not-is_service_of.false)
