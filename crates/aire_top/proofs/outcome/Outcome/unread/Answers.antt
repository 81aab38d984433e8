use Rattle.aire_top.proofs.Bare.{unread_bare}
use Rattle.aire_top.proofs.outcome.Outcome.unread.Goals as goal

pub returns : goal.returns
returns g c = unread_bare _ _ _ _ c.without.ensures c.unread.ensures.status c.unread.ensures.ends
