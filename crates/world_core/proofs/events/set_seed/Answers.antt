use Rattle.std.proofs.Common.{ap}
use Rattle.world_events.specs.Events.{turn}
use Rattle.world_core.specs.Environments.{world_of}
use Rattle.world_core.proofs.WorldLemmas.{set_turns}
use Rattle.world_core.proofs.events.set_seed.Goals as goal

pub returns : goal.returns
unfolding turn
returns c = set_turns _ _ c.was_set.result _ (ap (world_of c.args.world.now.services.items c.args.world.now.packets.list) c.set_word.ensures) c.was_set.ensures
