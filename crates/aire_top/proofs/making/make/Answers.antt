use Rattle.std.proofs.Common.{inl}
use Rattle.aire_top.proofs.making.make.Goals as goal

pub returns-in-Ok : goal.returns-in-Ok
returns-in-Ok g c = inl (c.in-Ok.seed, c.in-Ok.n, (c.in-Ok.ensures.fit, c.in-Ok.ensures.asked), c.make_of.ensures)
