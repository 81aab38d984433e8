use Rattle.node_workers.proofs.OperatorLemmas.{copy_so}
use Rattle.node_workers.specs.Desks.{at_desk}
use Rattle.node_workers.proofs.operators.service_now.Goals as goal

pub returns : goal.returns
returns g c = copy_so (at_desk c.args.desk.now).me c.service.result.now c.copy_under_lock.result c.copy_under_lock.ensures.same c.copy_under_lock.ensures.of
