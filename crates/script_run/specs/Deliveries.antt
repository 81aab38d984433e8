-- What is delivered behind a request.
use Rattle.std.specs.Prelude.{◌≡◌, ℕ, List, Option}
use Rattle.world_events.specs.Worlds.{World}
use Rattle.world_events.specs.declared.event.Event.{Event}
use Rattle.world_events.specs.declared.happened.Happened.{Happened}
use Rattle.world_laws.specs.Runs.{IsRun}
use Rattle.script_text.specs.declared.detail.Detail.{Detail}
use Rattle.script_run.specs.Stops.{AreDone}
use Rattle.script_run.specs.Told.{last_at}

-- what is in hand is delivered, and what that writes, until nothing is written; this happened before, and that last
pub record Delivers (start : World) (packet : Option ℕ) (before last : Option (Detail × Happened)) (now : World) : Type 0 where
  pub events : List Event
  pub are : IsRun start packet events
  pub done : AreDone start events now
  pub told : last ≡ last_at before start events
