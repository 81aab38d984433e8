-- The packet in hand: the one that is to be delivered next, if there is one.
use Rattle.std.specs.Prelude.{ℕ, Option, None, IfSome, IsSomeAnd, Ok, Err}
use Rattle.world_events.specs.Events.{Answer}
use Rattle.world_events.specs.Live.{IsLivePacket}
use Rattle.world_events.specs.Worlds.{World, packet_of}

-- the packet that an event wrote
abbrev pub written_at : Answer → Option ℕ
written_at (Ok h) = h.packet
written_at (Err why) = None

-- there is a packet of the number in hand, if one is, and it is a live call or what comes back of one
abbrev pub IsInHand : World → Option ℕ → Type 0
IsInHand w packet = IfSome packet (λ number. IsSomeAnd (packet_of number w) IsLivePacket)
