-- What the adapter over real files holds and tells: the paths that were asked for, and a count.
use Rattle.std.specs.Prelude.{ℕ, List, None}
use Rattle.io_edge.specs.Files.{Loads}
use Rattle.io_edge.specs.declared.real_files.RealFiles.{RealFiles}

-- the paths that were asked for, in order
abbrev pub real_asked : {R File Dir : Type 0} → RealFiles R File Dir → List (List ℕ)
real_asked s = s.asked

-- how many loads have failed
abbrev pub real_faults : {R File Dir : Type 0} → RealFiles R File Dir → ℕ
real_faults s = s.faults

-- no bytes
abbrev pub real_loads : {R File Dir : Type 0} → RealFiles R File Dir → Loads
real_loads s = record { files = None; asked = real_asked s; faults = real_faults s }
