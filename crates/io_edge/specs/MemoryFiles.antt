-- What files in memory tell.
use Rattle.std.specs.Prelude.{ℕ, Bool, List, Option, Some, find, option_map, nat_eq}
use Rattle.std.specs.Cmp.Lexicographic.{pointwise}
use Rattle.io_edge.specs.Files.{Loads}
use Rattle.io_edge.specs.declared.told.FailingCalls.{FailingCalls}
use Rattle.io_edge.specs.declared.memory_files.MemoryFile.{MemoryFile}
use Rattle.io_edge.specs.declared.memory_files.MemoryFiles.{MemoryFiles}

-- the file has this path
abbrev pub has_path : List ℕ → MemoryFile → Bool
has_path path file = pointwise nat_eq file.path path

-- the bytes of the first file that has this path
abbrev pub bytes_at : List MemoryFile → List ℕ → Option (List ℕ)
bytes_at files path = option_map (λ file. file.bytes) (find (has_path path) files)

-- the files in memory
abbrev pub memory_files : MemoryFiles → List MemoryFile
memory_files s = s.files

-- the paths that were asked for, in order
abbrev pub paths_asked : MemoryFiles → List (List ℕ)
paths_asked s = s.asked

-- how many loads have failed
abbrev pub load_faults : MemoryFiles → ℕ
load_faults s = s.calls.faults

-- all that they tell
abbrev pub memory_loads : MemoryFiles → Loads
memory_loads s = record { files = Some (bytes_at (memory_files s)); asked = paths_asked s; faults = load_faults s }

-- the loads that are to fail, and how many were made
abbrev pub load_calls : MemoryFiles → FailingCalls
load_calls s = s.calls
