-- What a source and a sink in memory tell.
use Rattle.std.specs.Prelude.{ℕ, List, Some, drop, length, min}
use Rattle.io_edge.specs.Edge.{Reads, Writes}
use Rattle.io_edge.specs.declared.told.FailingCalls.{FailingCalls}
use Rattle.io_edge.specs.declared.memory.MemorySource.{MemorySource}
use Rattle.io_edge.specs.declared.memory.MemorySink.{MemorySink}

-- the bytes that a source in memory has left
abbrev pub source_left : MemorySource → List ℕ
source_left s = drop s.at s.bytes.items

-- all the bytes that it ever had
abbrev pub source_whole : MemorySource → List ℕ
source_whole s = s.bytes.items

-- how many of its reads have failed
abbrev pub source_faults : MemorySource → ℕ
source_faults s = s.calls.faults

-- all that it tells
abbrev pub source_reads : MemorySource → Reads
source_reads s = record { left = Some (source_left s); whole = Some (source_whole s); faults = source_faults s }

-- the reads that are to fail, and how many were made
abbrev pub source_calls : MemorySource → FailingCalls
source_calls s = s.calls

-- the most bytes that a read gives
abbrev pub source_most : MemorySource → ℕ
source_most s = s.most

-- how many bytes a read gives that finds room for so many
abbrev pub read_count : MemorySource → ℕ → ℕ
read_count s room = min (min room s.most) (length (source_left s))

-- the bytes that were written to a sink in memory
abbrev pub sink_bytes : MemorySink → List ℕ
sink_bytes s = s.bytes.items

-- how many of its writes have failed
abbrev pub sink_faults : MemorySink → ℕ
sink_faults s = s.calls.faults

-- all that it tells
abbrev pub sink_writes : MemorySink → Writes
sink_writes s = record { written = Some (sink_bytes s); faults = sink_faults s }

-- the writes that are to fail, and how many were made
abbrev pub sink_calls : MemorySink → FailingCalls
sink_calls s = s.calls

-- the most bytes that a write takes
abbrev pub sink_most : MemorySink → ℕ
sink_most s = s.most
