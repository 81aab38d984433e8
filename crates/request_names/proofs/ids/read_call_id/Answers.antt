use Rattle.request_names.proofs.IdLemmas.{spelled}
use Rattle.request_names.proofs.ids.read_call_id.Goals as goal

pub returns-clause-spelled : goal.returns-clause-spelled
returns-clause-spelled c = spelled c.args.text.now c.in_ok-service.service c.in_ok-service.number c.in_ok-service.ensures.id
