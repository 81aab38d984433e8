-- What a connection is that was just given.
use Rattle.std.specs.Prelude.{◌≡◌, [], ⊤, option_map}
use Rattle.io_edge.specs.Edge.{Reads, Writes}
use Rattle.io_links.specs.declared.doors.Accepted.{Accepted}
use Rattle.io_links.specs.declared.doors.Accepted.TheVariants.{Conn, Nobody, Failed}

-- Nothing was taken from the connection and nothing written to it, no read or write of it has failed, and it tells what was
-- written where it tells what it has.
pub record IsNew (reads : Reads) (writes : Writes) : Type 0 where
  pub untaken : reads.left ≡ reads.whole
  pub unwritten : writes.written ≡ option_map (λ _. []) reads.whole
  pub no_read_failed : reads.faults ≡ 0
  pub no_write_failed : writes.faults ≡ 0

-- of a connection that came, this holds
abbrev pub GivesNew : {C : Type 0} → (C → Type 0) → Accepted C → Type 0
GivesNew P (Conn conn) = P conn
GivesNew P Nobody = ⊤
GivesNew P Failed = ⊤
