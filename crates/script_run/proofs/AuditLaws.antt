-- What the audit answers is what the search finds.
use Rattle.std.proofs.Common.{◌≡◌, ℕ, zero, suc, ◌+◌, ◌<◌, List, [], ◌∷◌, Option, Some, None, IsSomeAnd, All, length, nat_eq, option_map, slice_get, if◌then◌else◌, refl, sym, ap, ◌∙◌, inl, inr, eqb-true, add-zero, arith}
use Rattle.std.specs.List.{AllWithin, HoldsAt}
use Rattle.std.proofs.lemmas.Bool.{cases_Bool, eq-eqb}
use Rattle.std.proofs.lemmas.List.Elements.{All-head, All-tail}
use Rattle.local_repair.specs.Current.{Consumed}
use Rattle.local_repair.specs.Repairs.{IsStaleId, stale_id}
use Rattle.local_repair.proofs.TestLemmas.{stale_id_at, stale_id_none}
use Rattle.request_log.specs.declared.entry.Entry.{Entry}
use Rattle.flights.specs.declared.flight.Flight.{Flight}
use Rattle.journal_rows.specs.declared.row.Row.{Row}
use Rattle.journal_rows.specs.declared.verdict.Outstanding.{Outstanding}
use Rattle.journal_rows.specs.declared.verdict.Outstanding.TheVariants.{Flight as OfFlight, Stale as OfEntry, Call as OfCall, Fetch as OfFetch, Answer as OfAnswer}
use Rattle.journal_rows.specs.declared.verdict.Verdict.{Verdict}
use Rattle.journal_rows.specs.declared.verdict.Verdict.TheVariants.{Legal, Forged, Unsettled}
use Rattle.call_registers.specs.Registers.{owes_fetch}
use Rattle.call_registers.specs.declared.register.Register.{Register}
use Rattle.call_registers.specs.declared.reply.Reply.{Reply}
use Rattle.report_text.specs.Reports.{IsVerdictOver}
use Rattle.lang_core.specs.declared.cells.Cell.{Cell}
use Rattle.service_events.specs.State.{Kept, answers, base, unfolded}
use Rattle.world_agreement.specs.Partners.{HasPartner, IsJoined}
use Rattle.world_agreement.specs.Quiet.{IsQuiet, AreQuiet}
use Rattle.world_audit.specs.First.{IsFirstWithout}
use Rattle.world_audit.specs.Conditions.{is_partnered}
use Rattle.world_audit.specs.Verdicts.{IsAcknowledged, IsFetched, IsFirstIn, IsFirstOf, IsForged, IsGiven, IsJoinedIn, IsUnsettled, IsVerdict, NoneIn, NoneOf, what_is}
use Rattle.world_audit.specs.declared.outstanding.OutstandingKind.{OutstandingKind}
use Rattle.world_audit.specs.declared.outstanding.OutstandingKind.TheVariants.{Flights, Entries, Calls, Fetches, Answers}
use Rattle.world_audit.proofs.PartnerLemmas.{partner_exactly}
use Rattle.script_run.specs.Audits.{alone, first_found, forged_or, found_or, left_of, unless, unsettled_of, unsettled_or, verdict}

-- ---- the first that is found

none_found : {X : Type 0} (P : X → Type 0) (find : X → Option ℕ) → ((x : X) → P x → find x ≡ None) → (xs : List X) (at : ℕ) → All P xs → first_found find at xs ≡ None
none_found P find none [] at all = refl
none_found P find none (x ∷ xs) at all =
    ap (λ o. found_or at o (first_found find (at + 1) xs)) (none x (All-head P x xs all)) ∙ none_found P find none xs (at + 1) (All-tail P x xs all)

one_found : {X : Type 0} (P : X → Type 0) (Q : X → Type 0) (find : X → Option ℕ) (n : ℕ) → ((x : X) → P x → find x ≡ None) → ((x : X) → Q x → find x ≡ Some n)
    → (xs : List X) (at k : ℕ) → k < length xs → AllWithin P xs 0 k → HoldsAt Q xs k → first_found find at xs ≡ Some (at + k, n)
one_found P Q find n none some [] at k within before here = absurd (omega (arith, within))
one_found P Q find n none some (x ∷ xs) at zero within before here =
    ap (λ o. found_or at o (first_found find (at + 1) xs)) (some x (here x)) ∙ ap (λ (k : ℕ). Some (k, n)) (sym (add-zero at))
one_found P Q find n none some (x ∷ xs) at (suc k) within before here =
    let p : P x = before 0 x (omega arith) (omega arith) in
    let rest : AllWithin P xs 0 k = λ j d low high. before (suc j) d (omega arith) (omega (arith, high)) in
    let place : at + 1 + k ≡ at + suc k = omega arith in
    ap (λ o. found_or at o (first_found find (at + 1) xs)) (none x p)
    ∙ one_found P Q find n none some xs (at + 1) k (omega (arith, within)) rest (λ d. here d)
    ∙ ap (λ (j : ℕ). Some (j, n)) place

-- ---- rows

partnered : (services : List Kept) (s : Kept) (row : Row) → HasPartner services s row → unless (is_partnered services s row) 0 ≡ None
partnered services s row has = ap (λ b. unless b 0) ((partner_exactly services s row (is_partnered services s row) refl).1 has)

unpartnered : (services : List Kept) (s : Kept) (row : Row) → ¬ (HasPartner services s row) → unless (is_partnered services s row) 0 ≡ Some 0
unpartnered services s row lacks = elim (cases_Bool (is_partnered services s row)) [
  | inl is ↦ absurd (lacks ((partner_exactly services s row (is_partnered services s row) refl).0 is))
  | inr other ↦ ap (λ b. unless b 0) other
]

none_alone : (services : List Kept) (s : Kept) → IsJoinedIn services s → alone services s ≡ None
none_alone services s joined =
    ap (option_map (λ f. f.0)) (none_found (HasPartner services s) (λ row. unless (is_partnered services s row) 0) (partnered services s) s.journal 0 joined)

alone_at : (services : List Kept) (s : Kept) (index : ℕ) → IsFirstWithout (HasPartner services s) s.journal index → alone services s ≡ Some index
alone_at services s index f =
    let from : 0 + index ≡ index = omega arith in
    ap (option_map (λ f. f.0)) (one_found (HasPartner services s) (λ row. ¬ (HasPartner services s row)) (λ row. unless (is_partnered services s row) 0) 0 (partnered services s) (unpartnered services s) s.journal 0 index f.0 f.1 f.2)
    ∙ ap (λ (n : ℕ). Some n) from

-- ---- what is outstanding of a service

acknowledged : (r : Register) → IsAcknowledged r → unless (nat_eq r.acked r.version) r.number ≡ None
acknowledged r is = ap (λ b. unless b r.number) (eq-eqb r.acked r.version is)

abbrev IsOpen : ℕ → Register → Type 0
IsOpen n r = (¬ (IsAcknowledged r)) × (r.number ≡ n)

open_found : (n : ℕ) (r : Register) → IsOpen n r → unless (nat_eq r.acked r.version) r.number ≡ Some n
open_found n r is = elim (cases_Bool (nat_eq r.acked r.version)) [
  | inl same ↦ absurd (is.0 (eqb-true r.acked r.version same))
  | inr other ↦ ap (λ b. unless b r.number) other ∙ ap Some is.1
]

abbrev IsOwed : ℕ → Register → Type 0
IsOwed n r = (¬ (IsFetched r)) × (r.number ≡ n)

fetched : (r : Register) → IsFetched r → (if owes_fetch r then Some r.number else None) ≡ None
fetched r is = ap (λ b. if b then Some r.number else None) is

owed_found : (n : ℕ) (r : Register) → IsOwed n r → (if owes_fetch r then Some r.number else None) ≡ Some n
owed_found n r is = elim (cases_Bool (owes_fetch r)) [
  | inl owes ↦ ap (λ b. if b then Some r.number else None) owes ∙ ap Some is.1
  | inr other ↦ absurd (is.0 other)
]

abbrev IsDue : ℕ → Reply → Type 0
IsDue n p = (¬ (IsGiven p)) × (p.id ≡ n)

given : (p : Reply) → IsGiven p → (if p.due then Some p.id else None) ≡ None
given p is = ap (λ b. if b then Some p.id else None) is

due_found : (n : ℕ) (p : Reply) → IsDue n p → (if p.due then Some p.id else None) ≡ Some n
due_found n p is = elim (cases_Bool p.due) [
  | inl due ↦ ap (λ b. if b then Some p.id else None) due ∙ ap Some is.1
  | inr other ↦ absurd (is.0 other)
]

none_left : (kind : OutstandingKind) (s : Kept) → NoneOf kind s → left_of kind s ≡ None
none_left Flights s done = ap (λ (fs : List Flight). option_map (λ f. f.id) (slice_get fs 0)) done
none_left Entries s done = sym (stale_id_none (answers s) (base s) (unfolded s) done)
none_left Calls s done =
    ap (option_map (λ f. f.1)) (none_found IsAcknowledged (λ r. unless (nat_eq r.acked r.version) r.number) acknowledged s.registers 0 done)
none_left Fetches s done =
    ap (option_map (λ f. f.1)) (none_found IsFetched (λ r. if owes_fetch r then Some r.number else None) fetched s.registers 0 done)
none_left Answers s done =
    ap (option_map (λ f. f.1)) (none_found IsGiven (λ p. if p.due then Some p.id else None) given s.replies 0 done)

flight_left : (fs : List Flight) (n : ℕ) → IsSomeAnd (slice_get fs 0) (λ f. f.id ≡ n) → option_map (λ f. f.id) (slice_get fs 0) ≡ Some n
flight_left [] n f = absurd f
flight_left (g ∷ gs) n f = ap Some f

stale_left : (consumed : Consumed) (rows : List Cell) (entries : List Entry) (n : ℕ) → IsStaleId consumed rows entries n → stale_id consumed rows entries ≡ Some n
stale_left consumed rows [] n f = absurd (omega (arith, (f.first).within))
stale_left consumed rows (e ∷ es) n f = sym (stale_id_at consumed rows (e ∷ es) f.place e f.first) ∙ ap Some (f.names e)

left_at : (kind : OutstandingKind) (s : Kept) (n : ℕ) → IsFirstIn kind s n → left_of kind s ≡ Some n
left_at Flights s n f = flight_left s.flights n f
left_at Entries s n f = stale_left (answers s) (base s) (unfolded s) n f
left_at Calls s n f =
    ap (option_map (λ f. f.1)) (one_found IsAcknowledged (IsOpen n) (λ r. unless (nat_eq r.acked r.version) r.number) n acknowledged (open_found n) s.registers 0 f.place
    (f.first).0 (f.first).1 (λ d. ((f.first).2 d, f.names d)))
left_at Fetches s n f =
    ap (option_map (λ f. f.1)) (one_found IsFetched (IsOwed n) (λ r. if owes_fetch r then Some r.number else None) n fetched (owed_found n) s.registers 0 f.place
    (f.first).0 (f.first).1 (λ d. ((f.first).2 d, f.names d)))
left_at Answers s n f =
    ap (option_map (λ f. f.1)) (one_found IsGiven (IsDue n) (λ p. if p.due then Some p.id else None) n given (due_found n) s.replies 0 f.place
    (f.first).0 (f.first).1 (λ d. ((f.first).2 d, f.names d)))

-- ---- of all services

none_of : (kind : OutstandingKind) (services : List Kept) → NoneIn kind services → first_found (left_of kind) 0 services ≡ None
none_of kind services done = none_found (NoneOf kind) (left_of kind) (none_left kind) services 0 done

first_of : (kind : OutstandingKind) (services : List Kept) (at n : ℕ) → IsFirstOf kind services at n → first_found (left_of kind) 0 services ≡ Some (at, n)
first_of kind services at n f =
    let from : 0 + at ≡ at = omega arith in
    one_found (NoneOf kind) (λ s. IsFirstIn kind s n) (left_of kind) n (none_left kind) (λ s x. left_at kind s n x) services 0 at (f.service).0 (f.service).1 f.first
    ∙ ap (λ (k : ℕ). Some (k, n)) from

none_forged : (services : List Kept) → IsJoined services → first_found (alone services) 0 services ≡ None
none_forged services joined = none_found (IsJoinedIn services) (alone services) (none_alone services) services 0 joined

forged_at : (services : List Kept) (at index : ℕ) → IsForged services at index → first_found (alone services) 0 services ≡ Some (at, index)
forged_at services at index f =
    let from : 0 + at ≡ at = omega arith in
    one_found (IsJoinedIn services) (λ s. IsFirstWithout (HasPartner services s) s.journal index) (alone services) index (none_alone services) (λ s x. alone_at services s index x) services 0 at
    (f.service).0 (f.service).1 f.row
    ∙ ap (λ (k : ℕ). Some (k, index)) from

-- ---- the verdict

done_of : (kind : OutstandingKind) (s : Kept) → IsQuiet s → NoneOf kind s
done_of Flights s q = q.landed
done_of Entries s q = q.current
done_of Calls s q = q.acknowledged
done_of Fetches s q = q.fetched
done_of Answers s q = q.given

pass : (kind : OutstandingKind) (services : List Kept) (v : Verdict) → NoneIn kind services → unsettled_of kind services v ≡ v
pass kind services v done = ap (λ o. unsettled_or kind o v) (none_of kind services done)

stop : (kind : OutstandingKind) (services : List Kept) (v : Verdict) (at n : ℕ) → IsFirstOf kind services at n → unsettled_of kind services v ≡ Unsettled at (what_is kind n)
stop kind services v at n f = ap (λ o. unsettled_or kind o v) (first_of kind services at n f)

module _ (services : List Kept) where
  abbrev from_answers : Verdict
  from_answers = unsettled_of Answers services Legal

  abbrev from_fetches : Verdict
  from_fetches = unsettled_of Fetches services from_answers

  abbrev from_calls : Verdict
  from_calls = unsettled_of Calls services from_fetches

  abbrev from_entries : Verdict
  from_entries = unsettled_of Entries services from_calls

  unsettled_is : (at : ℕ) (what : Outstanding) → IsUnsettled services at what → unsettled_of Flights services from_entries ≡ Unsettled at what
  unsettled_is at (OfFlight n) u = stop Flights services from_entries at n u.first
  unsettled_is at (OfEntry n) u = pass Flights services from_entries u.earlier ∙ stop Entries services from_calls at n u.first
  unsettled_is at (OfCall n) u =
      pass Flights services from_entries (u.earlier).0 ∙ pass Entries services from_calls (u.earlier).1 ∙ stop Calls services from_fetches at n u.first
  unsettled_is at (OfFetch n) u =
      pass Flights services from_entries (u.earlier).0 ∙ pass Entries services from_calls (u.earlier).1 ∙ pass Calls services from_fetches (u.earlier).2
      ∙ stop Fetches services from_answers at n u.first
  unsettled_is at (OfAnswer n) u =
      pass Flights services from_entries (u.earlier).0 ∙ pass Entries services from_calls (u.earlier).1 ∙ pass Calls services from_fetches (u.earlier).2
      ∙ pass Fetches services from_answers (u.earlier).3 ∙ stop Answers services Legal at n u.first

  quiet_is : AreQuiet services → unsettled_of Flights services from_entries ≡ Legal
  quiet_is quiet =
      pass Flights services from_entries (λ k d l. done_of Flights _ (quiet k d l)) ∙ pass Entries services from_calls (λ k d l. done_of Entries _ (quiet k d l))
      ∙ pass Calls services from_fetches (λ k d l. done_of Calls _ (quiet k d l)) ∙ pass Fetches services from_answers (λ k d l. done_of Fetches _ (quiet k d l))
      ∙ pass Answers services Legal (λ k d l. done_of Answers _ (quiet k d l))

  joined_is : IsJoined services → verdict services ≡ unsettled_of Flights services from_entries
  joined_is joined = ap (λ o. forged_or o (unsettled_of Flights services from_entries)) (none_forged services joined)

  -- there is one verdict, which the search finds
  pub verdict_is : (v : Verdict) → IsVerdict services v → v ≡ verdict services
  verdict_is Legal h = sym (joined_is h.0 ∙ quiet_is h.1)
  verdict_is (Forged at index) h = sym (ap (λ o. forged_or o (unsettled_of Flights services from_entries)) (forged_at services at index h))
  verdict_is (Unsettled at what) h = sym (joined_is h.joined ∙ unsettled_is at what h)

-- it speaks of one of the services
pub verdict_within : (services : List Kept) (v : Verdict) → IsVerdict services v → IsVerdictOver (length services) v
verdict_within services Legal h = tt
verdict_within services (Forged at index) h = (h.service).0
verdict_within services (Unsettled at what) h = ((h.first).service).0
