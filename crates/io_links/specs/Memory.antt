-- What doors, connections and links over a network in memory keep and tell.
use Rattle.std.specs.Prelude.{ℕ}
use Rattle.io_edge.specs.Edge.{Reads, Writes}
use Rattle.io_edge.specs.Memory.{source_reads, sink_writes}
use Rattle.io_links.specs.Exchanges.{Exchanges}
use Rattle.io_links.specs.Told.{told}
use Rattle.io_links.specs.declared.memory.MemoryDoor.{MemoryDoor}
use Rattle.io_links.specs.declared.memory.MemoryCall.{MemoryCall}
use Rattle.io_links.specs.declared.memory.MemoryLink.{MemoryLink}

-- how many calls of the door have failed
abbrev pub door_faults : {W : Type 0} → MemoryDoor W → ℕ
door_faults d = d.calls.faults

-- what a connection's source half tells
abbrev pub call_reads : {W : Type 0} → MemoryCall W → Reads
call_reads c = source_reads c.conn.source

-- what its sink half tells
abbrev pub call_writes : {W : Type 0} → MemoryCall W → Writes
call_writes c = sink_writes c.conn.sink

-- the exchanges that a link made, and its count
abbrev pub link_exchanges : {W : Type 0} → MemoryLink W → Exchanges
link_exchanges l = told l.told
