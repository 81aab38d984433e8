-- The deliveries that follow a request: its calls, the calls of those, and what comes back of each.
use Rattle.std.specs.Prelude.{◌≡◌, ℕ, List, [], ◌∷◌, Option, Some, None}
use Rattle.lang_core.specs.declared.request.Request.{Request}
use Rattle.world_events.specs.Events.{after_event, answer_to}
use Rattle.world_events.specs.Worlds.{World}
use Rattle.world_events.specs.declared.event.Event.{Event}
use Rattle.world_events.specs.declared.event.Event.TheVariants.{Begin, Deliver}
use Rattle.world_laws.specs.InHand.{written_at}

-- the number of the packet that an event writes, if it writes one
abbrev pub written : World → Event → Option ℕ
written w e = written_at (answer_to w e)

-- Each event delivers the packet in hand, which is the one that the event before wrote. They end where none is in hand.
abbrev pub IsRun : World → Option ℕ → List Event → Type 0
IsRun w None [] = Unit {0}
IsRun w None (e ∷ events) = ⊥
IsRun w (Some number) [] = ⊥
IsRun w (Some number) (e ∷ events) = (e ≡ Deliver number) × IsRun (after_event w e) (written w e) events

-- A request comes from outside, and then what is written of it is delivered until nothing is.
abbrev pub IsAsking : World → List ℕ → Request → List Event → Type 0
IsAsking w service q [] = ⊥
IsAsking w service q (e ∷ events) = (e ≡ Begin service q) × IsRun (after_event w e) (written w e) events
