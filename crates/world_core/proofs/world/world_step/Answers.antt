use Rattle.world_core.proofs.WorldLemmas.{named, stays_closed, turns_seen}
use Rattle.world_core.proofs.world.world_step.Goals as goal

pub invariant_of-world : goal.invariant_of-world
invariant_of-world c = stays_closed _ _ c.args.event c.happen.result c.world.invariant c.happen.ensures.turns c.happen.ensures.well

pub returns-clause-turns : goal.returns-clause-turns
returns-clause-turns c = turns_seen _ c.args.world.now _ c.args.event c.happen.result c.world.view_is c.happen.ensures.turns

pub returns-clause-named : goal.returns-clause-named
returns-clause-named c = named _ c.args.world.now _ c.args.event c.happen.result c.world.view_is c.world.invariant c.happen.ensures.turns
