use Rattle.aire_top.proofs.Bare.{lacks_bare}
use Rattle.aire_top.proofs.outcome.Outcome.lacking.Goals as goal

pub returns : goal.returns
returns g c = lacks_bare _ _ _ _ c.without.ensures c.lacking.ensures
