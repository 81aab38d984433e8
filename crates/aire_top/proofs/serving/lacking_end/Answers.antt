use Rattle.aire_top.specs.Endings.{nothing}
use Rattle.aire_top.proofs.Bare.{lacks_now}
use Rattle.aire_top.proofs.serving.lacking_end.Goals as goal

pub returns : goal.returns
returns g c = (nothing c.lacking.result, c.without.ensures.ends, lacks_now _ _ _ c.lacking.ensures)
