-- What an event leaves and answers, unless memory is wanting.
use Rattle.std.specs.Prelude.{◌≡◌, Bool, true, false}
use Rattle.lang_base.specs.Memory.{Unless, lacks}
use Rattle.world_events.specs.Events.{Answer, Turn}
use Rattle.world_events.specs.Worlds.{World}
use Rattle.world_events.specs.declared.event.WorldStepRefused.{WorldStepRefused}
use Rattle.world_events.specs.declared.event.WorldStepRefused.TheVariants.{NoMemory}

abbrev pub world_memory : WorldStepRefused → Bool
world_memory NoMemory = true
world_memory why = false

abbrev pub turned_to : World → Answer → Turn
turned_to w answer = record { world = w; answer = answer }

-- the world that is left and the answer are these; for want of memory, nothing changed
abbrev pub Turns : Turn → World → Answer → World → Type 0
Turns t w result w' = Unless (lacks world_memory result) (turned_to w' result ≡ t) (w' ≡ w)
