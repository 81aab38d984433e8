-- A program that stands in the place of another one: what is left of a service's parts.
use Rattle.std.proofs.Common.{◌≡◌, ◌∙◌, ap, sym, ℕ, List, ◌++◌, length, map}
use Rattle.lang_programs.specs.Numbered.{Numbered}
use Rattle.request_log.specs.Entries.{corrected}
use Rattle.request_log.specs.Folded.{whole}
use Rattle.request_log.specs.declared.entry.Entry.{Entry}
use Rattle.request_log.specs.declared.folded.Folded.{Folded}
use Rattle.local_repair.specs.Repairs.{KeptRepairer}
use Rattle.flights.specs.Corrections.{corrected_flight}
use Rattle.flights.specs.declared.flight.Flight.{Flight}
use Rattle.service_events.specs.Orders.{corrected_on, newest_by}
use Rattle.service_events.specs.State.{folded, unfolded}
use Rattle.service_parts.specs.Parts.{kept, whole_log}
use Rattle.service_parts.specs.declared.parts.Parts.{Parts}
use Rattle.service_parts.proofs.WholeLemmas.{folded_kept, unfolded_kept}

-- the entries behind the folded ones, the flights and the newest program are corrected
pub corrected_is : (p : Parts) (new : KeptRepairer) (k : ℕ) (m : Numbered) (flights : List Flight) (newest : Numbered) → new.folded ≡ p.repairer.folded
    → new.base ≡ p.repairer.base → new.entries ≡ map (corrected k m) p.repairer.entries → flights ≡ map (corrected_flight k m) p.flights.list
    → newest ≡ newest_by k m p.newest
    → record (kept p) { newest = newest; entries = whole_log new; horizon = length new.folded; base = new.base; flights = flights } ≡ corrected_on k m (kept p)
corrected_is p new k m flights newest past under entries flying now =
    let all : whole_log new ≡ folded (kept p) ++ map (corrected k m) (unfolded (kept p)) =
    ap (λ (fs : List Folded). whole fs new.entries) past ∙ ap (whole p.repairer.folded) entries
    ∙ ap (λ (es : List Entry). es ++ map (corrected k m) p.repairer.entries) (sym (folded_kept p))
    ∙ ap (λ (es : List Entry). folded (kept p) ++ map (corrected k m) es) (sym (unfolded_kept p)) in
    (λ i. record (kept p) { newest = now i; entries = all i; horizon = length (past i); base = under i; flights = flying i })
