-- What an adapter holds, a reader or a writer of std and a count, and what it tells: the count.
use Rattle.std.specs.Prelude.{ℕ, None}
use Rattle.io_edge.specs.Edge.{Reads, Writes}
use Rattle.io_edge.specs.declared.streams.Reading.{Reading}
use Rattle.io_edge.specs.declared.streams.Writing.{Writing}

-- the reader that a source takes its bytes from
abbrev pub reader : {R : Type 0} → Reading R → R
reader s = s.inner

-- how many reads have failed
abbrev pub read_faults : {R : Type 0} → Reading R → ℕ
read_faults s = s.faults

-- no bytes
abbrev pub told_reads : {R : Type 0} → Reading R → Reads
told_reads s = record { left = None; whole = None; faults = read_faults s }

-- the writer that a sink hands its bytes to
abbrev pub writer : {W : Type 0} → Writing W → W
writer s = s.inner

-- how many writes have failed
abbrev pub write_faults : {W : Type 0} → Writing W → ℕ
write_faults s = s.faults

-- no bytes
abbrev pub told_writes : {W : Type 0} → Writing W → Writes
told_writes s = record { written = None; faults = write_faults s }
