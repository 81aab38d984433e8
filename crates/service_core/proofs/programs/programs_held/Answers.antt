use Rattle.std.proofs.Common.{◌≡◌, ◌∙◌, ap, [], ◌∷◌, List}
use Rattle.lang_programs.specs.Numbered.{Numbered}
use Rattle.service_core.specs.Programs.{by_numbers}
use Rattle.service_core.proofs.ProgramLemmas.{held_is, of_entries, of_flights}
use Rattle.service_core.proofs.programs.programs_held.Goals as goal

pub returns : goal.returns
returns c =
    let p = c.args.parts.now in
    let entries : c.as_slice.result.now ≡ p.repairer.entries = c.as_slice.ensures.entries ∙ c.log.ensures.entries in
    let flights : c.as_slice-2.result.now ≡ p.flights.list = c.as_slice-2.ensures.list in
    let newest : List Numbered = by_numbers [] (p.newest ∷ []) in
    let first : c.put.new.programs.list ≡ newest = c.in_ok-put.ensures ∙ ap (λ l. by_numbers l (p.newest ∷ [])) c.new-programs.ensures in
    let then : by_numbers c.put.new.programs.list (of_entries c.as_slice.result.now) ≡ by_numbers newest (of_entries p.repairer.entries) =
    (λ i. by_numbers (first i) (of_entries (entries i))) in
    let second : c.put_entries.new.programs.list ≡ by_numbers newest (of_entries p.repairer.entries) = c.in_ok-put_entries.ensures ∙ then in
    let last : by_numbers c.put_entries.new.programs.list (of_flights c.as_slice-2.result.now) ≡ by_numbers (by_numbers newest (of_entries p.repairer.entries)) (of_flights p.flights.list) =
    (λ i. by_numbers (second i) (of_flights (flights i))) in
    c.in_ok-put_flights.ensures ∙ last ∙ held_is p
