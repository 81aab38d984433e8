use Rattle.std.proofs.Common.{inl, refl}
use Rattle.node_workers.proofs.folding.fold_up_to.Goals as goal

pub returns-in-Err : goal.returns-in-Err
returns-in-Err g c = inl (refl, refl)
