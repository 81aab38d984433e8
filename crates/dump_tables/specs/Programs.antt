-- The programs of a service, by their numbers.
use Rattle.std.specs.Prelude.{ℕ, ◌-◌, List, [], ◌∷◌, ◌++◌, Option, Some, None, nat_eq, nat_lt, slice_get, if◌then◌else◌}
use Rattle.lang_core.specs.HandedOn.{Route}
use Rattle.dump_tables.specs.declared.programs.DumpPrograms.{DumpPrograms}

-- of these, which have the numbers from 2 on, the one of this number
abbrev pub later_at : ℕ → List (List Route) → Option (List Route)
later_at n later = if nat_lt n 2 then None else slice_get later (n - 2)

-- the program of this number
abbrev pub numbered : ℕ → DumpPrograms → Option (List Route)
numbered n programs = if nat_eq n 1 then Some programs.first else later_at n programs.later

-- with one that gets the next number
abbrev pub with_later : DumpPrograms → List Route → DumpPrograms
with_later programs program = record { first = programs.first; later = programs.later ++ program ∷ [] }
