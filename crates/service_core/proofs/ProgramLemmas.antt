-- The programs in use, gathered from the newest, the entries and the flights.
use Rattle.std.proofs.Common.{◌≡◌, ◌∙◌, ap, sym, List, [], ◌∷◌, ◌++◌, map}
use Rattle.std.proofs.lemmas.List.Sums.{fold-append}
use Rattle.lang_lists.specs.Numbers.{with_item}
use Rattle.lang_programs.specs.Numbered.{Numbered}
use Rattle.request_log.specs.declared.entry.Entry.{Entry}
use Rattle.flights.specs.declared.flight.Flight.{Flight}
use Rattle.service_core.specs.Programs.{by_numbers, programs_held}
use Rattle.service_parts.specs.Parts.{kept}
use Rattle.service_parts.specs.declared.parts.Parts.{Parts}
use Rattle.service_parts.proofs.WholeLemmas.{unfolded_kept}

abbrev pub of_entries : List Entry → List Numbered
of_entries es = map (λ (e : Entry). e.under.now) es

abbrev pub of_flights : List Flight → List Numbered
of_flights fs = map (λ (f : Flight). f.program) fs

-- one behind another they are those that a service has
pub held_is : (p : Parts) → by_numbers (by_numbers (by_numbers [] (p.newest ∷ [])) (of_entries p.repairer.entries)) (of_flights p.flights.list) ≡ by_numbers [] (programs_held (kept p))
held_is p =
    sym (fold-append (λ ps n. with_item (λ (x : Numbered). x.number) n ps) (by_numbers [] (p.newest ∷ [])) (of_entries p.repairer.entries) (of_flights p.flights.list))
    ∙ ap (λ (es : List Entry). by_numbers [] (p.newest ∷ (of_entries es ++ of_flights p.flights.list))) (sym (unfolded_kept p))
