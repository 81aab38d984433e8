-- The counts of doors and links over TCP.
use Rattle.std.specs.Prelude.{ℕ, None}
use Rattle.io_links.specs.Exchanges.{Exchanges}
use Rattle.tcp_links.specs.declared.ears.TcpDoor.{TcpDoor}
use Rattle.tcp_links.specs.declared.links.TcpLink.{TcpLink}

-- how many calls of a door have failed
abbrev pub door_faults : {R Stream Listener : Type 0} → TcpDoor R Stream Listener → ℕ
door_faults d = d.faults

-- how many exchanges of a link have failed; it tells none
abbrev pub tcp_exchanges : {R Stream Listener : Type 0} → TcpLink R Stream Listener → Exchanges
tcp_exchanges l = record { made = None; faults = l.faults }
