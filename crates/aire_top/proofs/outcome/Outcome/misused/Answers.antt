use Rattle.aire_top.proofs.Bare.{closes_bare}
use Rattle.aire_top.proofs.outcome.Outcome.misused.Goals as goal

pub returns : goal.returns
returns g c = closes_bare _ _ 2 _ _ _ c.without.ensures c.misused.ensures
