use Rattle.world_settle.proofs.EventLemmas.{on_err}
use Rattle.world_settle.proofs.Telling.{delivers_back_first}
use Rattle.world_settle.proofs.exchanges.deliver_back.Goals as goal

pub returns-in_err-came-in-Some-clause-early : goal.returns-in_err-came-in-Some-clause-early
returns-in_err-came-in-Some-clause-early c = on_err _ (delivers_back_first c.args.world.now c.happen.new.world c.args.packet c.in_err-came-in-Some.ensures.early)
