use Rattle.std.proofs.Common.{Err, ap}
use Rattle.node_run.proofs.RefusedLemmas.{as_differs, as_twice}
use Rattle.node_run.proofs.ending.joined_end.Goals as goal

pub returns-in-Ok-clause-end : goal.returns-in-Ok-clause-end
returns-in-Ok-clause-end g c = c.ended.ensures.end c.args.nodes.since.items c.in-Ok.ensures.whole

pub returns-in-Ok-clause-noted : goal.returns-in-Ok-clause-noted
returns-in-Ok-clause-noted g c = c.ended.ensures.noted c.args.nodes.since.items c.in-Ok.ensures.noted

pub returns-in-Err-clause-differs : goal.returns-in-Err-clause-differs
returns-in-Err-clause-differs g c r services e = c.in-Err.ensures.differs r services (ap Err (as_differs c.in-Err.why r services (let h = c.unequal.ensures in cc)))

pub returns-in-Err-clause-twice : goal.returns-in-Err-clause-twice
returns-in-Err-clause-twice g c r t services e = c.in-Err.ensures.twice r t services (ap Err (as_twice c.in-Err.why r t services (let h = c.unequal.ensures in cc)))
