use Rattle.std.proofs.Common.{inl, refl, ◌∙◌}
use Rattle.aire_top.proofs.ending.world_refused.Goals as goal

pub returns-in-Ok : goal.returns-in-Ok
returns-in-Ok g c = let e = c.as_str.ensures.value ∙ c.in-Ok.ensures.ok in inl (refl, rw e at c.write_last.ensures.ends)
