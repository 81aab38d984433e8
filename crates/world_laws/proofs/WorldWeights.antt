-- What a world and the packet in hand weigh.
use Rattle.std.specs.Prelude.{ℕ, ◌+◌, List, Option, Some, None, map, sum_by}
use Rattle.service_events.specs.State.{Kept, me}
use Rattle.world_events.specs.Worlds.{World, packet_of}
use Rattle.world_events.specs.declared.packet.Packet.{Packet}
use Rattle.world_events.specs.declared.packet.Packet.TheVariants.{Call}
use Rattle.world_laws.proofs.Weights.{load, message_weight}

abbrev pub names_of : List Kept → List (List ℕ)
names_of services = map me services

abbrev pub packet_weight : List (List ℕ) → Packet → ℕ
packet_weight names (Call from flight set) = message_weight names set set.desired
packet_weight names packet = 1

abbrev pub weight_if : List (List ℕ) → Option Packet → ℕ
weight_if names None = 0
weight_if names (Some p) = packet_weight names p

-- the packet in hand is the one of this number, where there is one
abbrev pub in_hand : World → Option ℕ → Option Packet
in_hand w None = None
in_hand w (Some number) = packet_of number w

-- what all services weigh, and the packet in hand
abbrev pub world_weight : World → Option ℕ → ℕ
world_weight w number = sum_by (load (names_of w.services)) w.services + weight_if (names_of w.services) (in_hand w number)
