-- The rows of deleted calls, one after another, and the flight that is gone.
use Rattle.std.proofs.Common.{◌≡◌, ◌∙◌, sym, ap, refl, ℕ, zero, suc, ◌+◌, ◌<◌, ◌≤◌, ◌^◌, Bool, true, false, List, [], ◌∷◌, ◌++◌, length, drop, remove, slice_index_or, Some, None, All, append_assoc, eqb-true, arith}
use Rattle.std.proofs.lemmas.List.Elements.{All-cons, All-nil}
use Rattle.lang_core.specs.declared.trace.CallMade.{CallMade}
use Rattle.journal_rows.specs.declared.row.Row.{Row}
use Rattle.call_registers.specs.declared.register.Register.{Register}
use Rattle.flights.specs.Numbers.{has_flight, without_flight}
use Rattle.flights.specs.declared.flight.Flight.{Flight}
use Rattle.flights.proofs.NumberLemmas.{none_removed}
use Rattle.service_events.specs.State.{Kept, After, after, flight_of}
use Rattle.service_events.specs.Calls.{all_deleted, deleted, noted}
use Rattle.service_events.specs.Arriving.{abandoned, abandon_event}
use Rattle.service_events.specs.declared.event.Event.TheVariants as events
use Rattle.service_events.proofs.SearchLemmas.{splits}
use Rattle.service_parts.specs.Parts.{kept}
use Rattle.service_parts.specs.Services.{HasRoom, IsService}
use Rattle.service_parts.specs.declared.parts.Parts.{Parts}
use Rattle.service_requests.specs.Deletions.{IsDeletion}
use Rattle.service_parts.proofs.ServiceLaws.{event_service}

-- ---- rows of deletions

no_calls : (registers : List Register) (numbers : List ℕ) → all_deleted registers numbers [] ≡ []
no_calls registers [] = refl
no_calls registers (n ∷ ns) = refl

pub first_and_rest : (calls : List CallMade) (call : CallMade) → 0 < length calls → call ≡ slice_index_or calls 0 call → calls ≡ call ∷ remove calls 0
first_and_rest [] call some is = absurd (omega (arith, some))
first_and_rest (c ∷ calls) call some is = ap (λ x. x ∷ calls) (sym is)

pub one_deleted : (registers : List Register) (number : ℕ) (numbers : List ℕ) (calls rest : List CallMade) (call : CallMade) (journal journal' : List Row) → calls ≡ call ∷ rest
    → journal' ≡ journal ++ deleted registers number call ∷ []
    → journal' ++ all_deleted registers numbers rest ≡ journal ++ all_deleted registers (number ∷ numbers) calls
one_deleted registers number numbers calls rest call journal journal' is row =
    ap (λ j. j ++ all_deleted registers numbers rest) row
    ∙ append_assoc journal (deleted registers number call ∷ []) (all_deleted registers numbers rest)
    ∙ ap (λ cs. journal ++ all_deleted registers (number ∷ numbers) cs) (sym is)

pub all_deletions : (registers : List Register) (numbers : List ℕ) (calls : List CallMade) → All IsDeletion (all_deleted registers numbers calls)
all_deletions registers [] calls = All-nil IsDeletion
all_deletions registers (n ∷ ns) [] = All-nil IsDeletion
all_deletions registers (n ∷ ns) (c ∷ cs) = All-cons IsDeletion (deleted registers n c) (all_deleted registers ns cs) refl (all_deletions registers ns cs)

pub none_deleted : (registers : List Register) (number : ℕ) (numbers : List ℕ) (calls : List CallMade) (journal : List Row) → length calls ≡ 0
    → journal ++ all_deleted registers numbers calls ≡ journal ++ all_deleted registers (number ∷ numbers) calls
none_deleted registers number numbers [] journal none = ap (λ l. journal ++ l) (no_calls registers numbers)
none_deleted registers number numbers (c ∷ calls) journal none = absurd (omega (arith, none))

behind : (xs ys : List Row) → drop (length xs) (xs ++ ys) ≡ ys
behind [] ys = refl
behind (x ∷ xs) ys = behind xs ys

-- the rows behind those that were there
pub behind_first : (before rows first after : List Row) → first ≡ before → after ≡ before ++ rows → drop (length first) after ≡ rows
behind_first before rows first after same is = ap (λ f. drop (length f) after) same ∙ ap (drop (length before)) is ∙ behind before rows

-- what holds of each row from an index on
pub each_from : (P : Row → Type 0) (first at : ℕ) (rows : List Row) (row : Row) → All P (drop first rows) → first ≤ at → at < length rows → P (slice_index_or rows at row)
each_from P zero at rows row h from within = h at row within
each_from P (suc first) at [] row h from within = absurd (omega (arith, within))
each_from P (suc first) zero (r ∷ rows) row h from within = absurd (omega (arith, from))
each_from P (suc first) (suc at) (r ∷ rows) row h from within = each_from P first at rows row h (omega (arith, from)) (omega (arith, within))

-- ---- the flight that is gone

-- where there is none, nothing changes
pub none_gone : (s : Kept) (id : ℕ) (flights : List Flight) → flights ≡ without_flight id s.flights → flight_of id s ≡ None → (record s { flights = flights }) ≡ s
none_gone s id flights is none = ap (λ fs. record s { flights = fs }) (is ∙ none_removed id s.flights none)

pub nothing_abandoned : (s s' : Kept) (id : ℕ) → s' ≡ s → flight_of id s ≡ None → after s' false ≡ abandon_event s id
nothing_abandoned s s' id same none = ap (λ k. after k false) same ∙ sym (ap (abandoned s) none)

-- else its calls are deleted
pub flight_abandoned : (s s' : Kept) (id : ℕ) (f : Flight) (flights : List Flight) → flight_of id s ≡ Some f → flights ≡ without_flight id s.flights
    → s' ≡ noted (all_deleted s.registers f.numbers f.calls) (record s { flights = flights }) → after s' true ≡ abandon_event s id
flight_abandoned s s' id f flights found gone is =
    let same : f.id ≡ id = eqb-true f.id id (splits (has_flight id) s.flights f found).passes in
    ap (λ k. after k true) is
    ∙ ap (λ fs. after (noted (all_deleted s.registers f.numbers f.calls) (record s { flights = fs })) true) (gone ∙ ap (λ k. without_flight k s.flights) (sym same))
    ∙ sym (ap (abandoned s) found)

pub abandon_service : (p p' : Parts) (id : ℕ) (there : Bool) → IsService p → after (kept p') there ≡ abandon_event (kept p) id → HasRoom p' → IsService p'
abandon_service p p' id there h is room =
    event_service p p' (events.Abandon id) (ap (λ (a : After Bool). a.service) is) room h
