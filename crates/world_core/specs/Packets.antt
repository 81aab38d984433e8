-- The packets of a world, and by which keys calls are found among them.
use Rattle.std.specs.Prelude.{ℕ, List}
use Rattle.lang_lists.specs.Keys.{call_key}
use Rattle.world_events.specs.declared.packet.Packet.{Packet}
use Rattle.world_events.specs.declared.packet.Packet.TheVariants.{Call}

-- the packets in the order in which they were written, and at least how many more can be written without memory
pub record KeptPackets : Type 0 where
  pub list : List Packet
  pub spare : ℕ

-- the key of a live call
abbrev pub packet_key : Packet → ℕ
packet_key (Call from flight set) = call_key set.caller set.number
packet_key packet = 0
