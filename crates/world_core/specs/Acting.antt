-- What a service does in its world: which world that leaves, and what is told of it.
use Rattle.std.specs.Prelude.{ℕ, ◌≡◌, ◌+◌, ◌++◌, List, [], Option, Some, None, IsSome, Result, Ok, Err, IfOk, is_err, length, option_map, option_to_list}
use Rattle.std.specs.Option.{ok_or}
use Rattle.lang_base.specs.Memory.{Unless, lacks}
use Rattle.lang_base.specs.declared.memory.NoMemory.{NoMemory}
use Rattle.service_events.specs.State.{Kept, flight_of}
use Rattle.world_agreement.specs.Partners.{service_of}
use Rattle.world_events.specs.Events as events
use Rattle.world_events.specs.Events.{Answer, Turn, abandon_served}
use Rattle.world_events.specs.Turns.{turned_to, world_memory}
use Rattle.world_events.specs.Worlds.{World, with_service}
use Rattle.world_events.specs.declared.event.WorldStepRefused.{WorldStepRefused}
use Rattle.world_events.specs.declared.event.WorldStepRefused.TheVariants.{NoService}
use Rattle.world_events.specs.declared.packet.Packet.{Packet}
use Rattle.world_core.specs.Environments.{Environment, world_of}
use Rattle.world_core.specs.declared.parts.Parts.{Parts}
use Rattle.world_core.specs.declared.served.Served.{Served}

-- the world of these parts
abbrev pub seen : Parts → World
seen p = world_of p.services.items p.packets.list p.environment

-- ---- at a service

-- what an event leaves of a service and gives to be written
abbrev pub served : Kept → Served → events.Served
served s m = record { service = s; what = m.what; packet = m.packet }

-- the service that is left, what happened and the packet are these; for want of memory, nothing changed
abbrev pub Serves : events.Served → Kept → Result Served NoMemory → Kept → Type 0
Serves d s result s' = Unless (is_err result) (IfOk result (λ m. served s' m ≡ d)) (s' ≡ s)

-- the flight is given up, if it is there
abbrev pub GivesUp : ℕ → Kept → Option Served → Kept → Type 0
GivesUp flight s None s' = (s' ≡ s) × (flight_of flight s ≡ None)
GivesUp flight s (Some m) s' = (served s' m ≡ abandon_served flight s) × IsSome (flight_of flight s)

-- ---- in its world

-- the place, or that there is no such service; nothing is said of want of memory
abbrev pub Finds : Option ℕ → Result ℕ WorldStepRefused → Type 0
Finds place result = Unless (lacks world_memory result) (result ≡ ok_or place NoService) (Unit {0})

-- ---- what an event leaves and tells

-- what is told of a service, where these packets were written before
abbrev pub told : List ℕ → List Packet → Result Served WorldStepRefused → Answer
told name packets (Ok m) = Ok (record { service = Some name; what = m.what; packet = option_map (λ _. length packets + 1) m.packet })
told name packets (Err why) = Err why

-- what is written of it
abbrev pub written : Result Served WorldStepRefused → List Packet
written (Ok m) = option_to_list m.packet
written (Err why) = []

-- The service of this name did this in a world that has these packets: what is left and told is the turn that it is there.
-- For want of memory, nothing changed.
abbrev pub Acts : (World → Turn) → List ℕ → List Packet → Kept → Environment → Result Served WorldStepRefused → Kept → Environment → Type 0
Acts turn name packets s e result s' e' =
    Unless (lacks world_memory result)
    ((services : List Kept) → service_of name services ≡ Some s
    → turned_to (world_of (with_service name s' services) (packets ++ written result) e') (told name packets result) ≡ turn (world_of services packets e))
    ((s' ≡ s) × (e' ≡ e))
