use Rattle.node_workers.proofs.OperatorLemmas.{want_told}
use Rattle.node_workers.specs.Desks.{at_desk}
use Rattle.node_workers.proofs.operators.reply_or_want.Goals as goal

pub returns-in-Err-clause-told : goal.returns-in-Err-clause-told
returns-in-Err-clause-told g c =
    want_told (at_desk c.args.desk.now) c.args.inputs c.reply.new.pass.notes c.args.request.now c.want.result c.want.ensures
