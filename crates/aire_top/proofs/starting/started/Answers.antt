use Rattle.std.proofs.Common.{List, ap, sym, subst, ◌∙◌}
use Rattle.service_events.specs.State.{Kept}
use Rattle.world_events.specs.Live.{IsLiveWorld}
use Rattle.world_events.specs.Worlds.{fresh_world}
use Rattle.aire_top.proofs.FreshLaws.{setups_live}
use Rattle.aire_top.proofs.starting.started.Goals as goal

pub returns-clause-live : goal.returns-clause-live
returns-clause-live c =
    subst IsLiveWorld (sym (c.new.ensures ∙ ap (λ (services : List Kept). fresh_world services) c.in_ok-services.ensures)) (setups_live c.args.setups.now)
