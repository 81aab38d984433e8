use Rattle.std.proofs.Common.{IsSome, subst, sym}
use Rattle.world_core.proofs.PartLemmas.{has_place}
use Rattle.world_core.proofs.parts.located.Goals as goal

pub unwrap-at-requires : goal.unwrap-at-requires
unwrap-at-requires c = subst (λ o. IsSome o) (sym c.place_of.ensures) (has_place c.args.name.now c.args.services.now c.requires)
