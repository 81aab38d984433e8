-- What functions answer of a world that they change.
use Rattle.std.specs.Prelude.{Option, Some, None}
use Rattle.lang_core.specs.declared.request.Response.{Response}
use Rattle.one_world.specs.Tapes.{World}
use Rattle.one_world.specs.Turns.{Turned}

-- the world after a request and its response, where it doesn't fail
abbrev pub turned : Option Response → World → Option Turned
turned None world = None
turned (Some response) world = Some (record { world = world; response = response })
