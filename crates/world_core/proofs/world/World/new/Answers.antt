use Rattle.std.proofs.Common.{All, sym, subst}
use Rattle.std.proofs.lemmas.List.Elements.{All-nil}
use Rattle.world_events.specs.Ends.{HasEnds}
use Rattle.world_core.proofs.world.World.new.Goals as goal

pub invariant_of-result : goal.invariant_of-result
invariant_of-result c = record {
  differ = c.requires.differ;
  peered = c.requires.peered;
  ends = subst (All (HasEnds c.args.services.items)) (sym c.new.ensures) (All-nil (HasEnds c.args.services.items));
}
