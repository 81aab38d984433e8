use Rattle.std.proofs.Common.{Err, ap}
use Rattle.aire_top.proofs.ServeLaws.{refused_ends, verdict_within, well_ends}
use Rattle.aire_top.proofs.serving.serve_peers.Goals as goal

pub told-requires : goal.told-requires
told-requires g c = verdict_within _ _ _ _ c.in-Ok.ensures.end

pub returns-in-Ok : goal.returns-in-Ok
returns-in-Ok g c = well_ends c.args.peers.now.setups.items _ _ _ _ _ (c.told.ensures c.args.peers.now.setups.items c.in-Ok.ensures.end c.in-Ok.ensures.last)

pub returns-in-Err : goal.returns-in-Err
returns-in-Err g c =
    refused_ends c.args.peers.now.setups.items _ _ _ _ c.in-Err.why _
    (record {
      door = λ is. c.in-Err.ensures.door (ap Err is);
      started = λ is. c.in-Err.ensures.started (ap Err is);
      differs = λ r services is. c.in-Err.ensures.differs r services (ap Err is);
      twice = λ r t services is. c.in-Err.ensures.twice r t services (ap Err is);
    })
    c.refused.ensures
