-- What a connection over TCP tells: counts of faults, and no bytes.
use Rattle.std.specs.Prelude.{None}
use Rattle.io_edge.specs.Edge.{Reads, Writes}
use Rattle.tcp_links.specs.declared.connection.TcpConnection.{TcpConnection}

-- how many of its reads have failed
abbrev pub tcp_reads : {R : Type 0} → TcpConnection R → Reads
tcp_reads c = record { left = None; whole = None; faults = c.read_faults }

-- how many of its writes have failed
abbrev pub tcp_writes : {R : Type 0} → TcpConnection R → Writes
tcp_writes c = record { written = None; faults = c.write_faults }
