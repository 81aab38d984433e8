-- Services as they are set up, before anything happens.
use Rattle.std.specs.Prelude.{List, map}
use Rattle.service_events.specs.State.{Kept, fresh as new_service}
use Rattle.world_events.specs.Worlds.{World, fresh_world}
use Rattle.world_file.specs.declared.setup.Setup.{Setup}

-- it answered nothing yet
abbrev pub fresh_service : Setup → Kept
fresh_service setup = new_service setup.setting setup.rules

-- the world that begins with them
abbrev pub fresh : List Setup → World
fresh setups = fresh_world (map fresh_service setups)
