-- Which programs are in use at a service, and by how many.
use Rattle.std.specs.Prelude.{List, [], ◌∷◌, ◌++◌, filter, fold, length, map}
use Rattle.lang_lists.specs.Numbers.{with_item}
use Rattle.lang_programs.specs.Numbered.{Numbered}
use Rattle.request_log.specs.Entries.{has_program}
use Rattle.request_log.specs.declared.entry.Entry.{Entry}
use Rattle.flights.specs.Corrections.{has_program as is_under}
use Rattle.flights.specs.declared.flight.Flight.{Flight}
use Rattle.service_events.specs.State.{Kept, unfolded}
use Rattle.service_core.specs.declared.programs.ProgramInUse.{ProgramInUse}

-- the newest program, and those that entries have that aren't folded, and flights
abbrev pub programs_held : Kept → List Numbered
programs_held s = s.newest ∷ (map (λ (e : Entry). e.under.now) (unfolded s) ++ map (λ (f : Flight). f.program) s.flights)

-- programs, each once by its number, in the order of their numbers, with these others among them
abbrev pub by_numbers : List Numbered → List Numbered → List Numbered
by_numbers programs others = fold (λ ps p. with_item (λ (n : Numbered). n.number) p ps) programs others

-- how many entries have it that aren't folded, and how many flights
abbrev pub use_of : Kept → Numbered → ProgramInUse
use_of s p =
    record {
      program = p;
      entries = length (filter (has_program p.number) (unfolded s));
      flights = length (filter (is_under p.number) s.flights);
    }

-- the programs in use, by their numbers
abbrev pub programs_in_use : Kept → List ProgramInUse
programs_in_use s = map (use_of s) (by_numbers [] (programs_held s))
