-- The verdict over services, as a search.
use Rattle.std.specs.Prelude.{ℕ, ◌+◌, Bool, List, [], ◌∷◌, Option, Some, None, if◌then◌else◌, nat_eq, option_map, slice_get}
use Rattle.local_repair.specs.Repairs.{stale_id}
use Rattle.journal_rows.specs.declared.verdict.Verdict.{Verdict}
use Rattle.journal_rows.specs.declared.verdict.Verdict.TheVariants.{Legal, Forged, Unsettled}
use Rattle.call_registers.specs.Registers.{owes_fetch}
use Rattle.service_events.specs.State.{Kept, answers, base, unfolded}
use Rattle.world_audit.specs.Conditions.{is_partnered}
pub use Rattle.world_audit.specs.Verdicts.{SaysForged}
use Rattle.world_audit.specs.Verdicts.{what_is}
use Rattle.world_audit.specs.declared.outstanding.OutstandingKind.{OutstandingKind}
use Rattle.world_audit.specs.declared.outstanding.OutstandingKind.TheVariants.{Flights, Entries, Calls, Fetches, Answers}

-- what is found at this place, else what is found later
abbrev pub found_or : ℕ → Option ℕ → Option (ℕ × ℕ) → Option (ℕ × ℕ)
found_or at (Some n) later = Some (at, n)
found_or at None later = later

-- the place of the first element of which something is found, counted from this one on, and what is found
abbrev pub first_found : {X : Type 0} → (X → Option ℕ) → ℕ → List X → Option (ℕ × ℕ)
first_found find at [] = None
first_found find at (x ∷ xs) = found_or at (find x) (first_found find (at + 1) xs)

-- a number, where a test fails
abbrev pub unless : Bool → ℕ → Option ℕ
unless ok n = if ok then None else Some n

-- the first row of a service without a partner
abbrev pub alone : List Kept → Kept → Option ℕ
alone services s = option_map (λ f. f.0) (first_found (λ row. unless (is_partnered services s row) 0) 0 s.journal)

-- the first of this kind that is outstanding of a service
abbrev pub left_of : OutstandingKind → Kept → Option ℕ
left_of Flights s = option_map (λ f. f.id) (slice_get s.flights 0)
left_of Entries s = stale_id (answers s) (base s) (unfolded s)
left_of Calls s = option_map (λ f. f.1) (first_found (λ r. unless (nat_eq r.acked r.version) r.number) 0 s.registers)
left_of Fetches s = option_map (λ f. f.1) (first_found (λ r. if owes_fetch r then Some r.number else None) 0 s.registers)
left_of Answers s = option_map (λ f. f.1) (first_found (λ p. if p.due then Some p.id else None) 0 s.replies)

abbrev pub forged_or : Option (ℕ × ℕ) → Verdict → Verdict
forged_or None v = v
forged_or (Some f) v = Forged f.0 f.1

abbrev pub unsettled_or : OutstandingKind → Option (ℕ × ℕ) → Verdict → Verdict
unsettled_or kind None v = v
unsettled_or kind (Some f) v = Unsettled f.0 (what_is kind f.1)

abbrev pub unsettled_of : OutstandingKind → List Kept → Verdict → Verdict
unsettled_of kind services v = unsettled_or kind (first_found (left_of kind) 0 services) v

-- the first row without a partner, else the first thing outstanding by kind, else Legal
abbrev pub verdict : List Kept → Verdict
verdict services =
    forged_or (first_found (alone services) 0 services)
    (unsettled_of Flights services
    (unsettled_of Entries services (unsettled_of Calls services (unsettled_of Fetches services (unsettled_of Answers services Legal)))))
