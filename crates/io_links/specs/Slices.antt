-- What a source over borrowed bytes tells.
use Rattle.std.specs.Prelude.{ℕ, List, Some, drop}
use Rattle.io_edge.specs.Edge.{Reads}
use Rattle.io_links.specs.declared.slices.SliceSource.{SliceSource}

-- the bytes that it has left
abbrev pub slice_left : SliceSource → List ℕ
slice_left s = drop s.at s.bytes.now

-- all the bytes that it ever had
abbrev pub slice_whole : SliceSource → List ℕ
slice_whole s = s.bytes.now

-- all that it tells; none of its reads has failed
abbrev pub slice_reads : SliceSource → Reads
slice_reads s = record { left = Some (slice_left s); whole = Some (slice_whole s); faults = 0 }
