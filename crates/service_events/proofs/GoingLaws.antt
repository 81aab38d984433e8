-- What a flight does after a run keeps what fits of calls.
use Rattle.std.proofs.Common.{◌≡◌, ℕ, zero, suc, ◌<◌, ◌≤◌, Bool, true, false, List, [], ◌∷◌, Option, Some, None, map, take, length, slice_get, option_map, nat_le, refl, sym, ap, ◌∙◌, subst, inl, inr, arith, length-append, if◌then◌else◌}
use Rattle.std.proofs.lemmas.Bool.{cases_Bool}
use Rattle.std.proofs.Math.ListN.{length-map}
use Rattle.lang_base.proofs.EqualLemmas.{equal-true}
use Rattle.lang_base.specs.Equal.{equal}
use Rattle.lang_core.specs.Traces.{dead_trace}
use Rattle.lang_core.specs.contracts.trace.CallMade as call_made
use Rattle.lang_core.specs.declared.trace.CallMade.{CallMade}
use Rattle.lang_programs.specs.Settings.{with_program}
use Rattle.handler_run.specs.declared.state.Ran.{Ran}
use Rattle.handler_run.specs.declared.state.Ran.TheVariants.{Done, Wants}
use Rattle.handler_run.proofs.RunLaws.{takes_done, counts_done}
use Rattle.local_repair.specs.Alone.{trace_or_dead}
use Rattle.local_repair.specs.Current.{rows_after}
use Rattle.call_registers.specs.Registers.{next_number}
use Rattle.call_registers.specs.declared.register.Why.TheVariants.{Changes}
use Rattle.flights.specs.Moves.{calls_in, first_other, by_run, change_or}
use Rattle.flights.specs.declared.flight.Flight.{Flight}
use Rattle.service_events.specs.State.{Kept, After, answers, base, unfolded}
use Rattle.service_events.specs.Calls.{noted, named}
use Rattle.service_events.specs.Flying.{flight_run, committed, with_slot, with_change, change_rows, waits, call_or_none, named_unsent, changed_unsent, completing, completed, changed, moved, goes_on}
use Rattle.service_events.specs.Fits.{WantsItsCalls, calls_of_flight}
use Rattle.service_events.specs.declared.answers.Arrived.{Arrived}
use Rattle.service_events.proofs.CallRowLemmas.{each_of_all}
use Rattle.service_events.proofs.PlaceLemmas.{lengths}
use Rattle.service_events.proofs.CallLaws.{FitsCalls, Goes, goes_then}
use Rattle.service_events.proofs.FlightLaws.{flying, around, flown, fitting_at, goes_named, goes_changed, goes_untold}
use Rattle.service_events.proofs.CommitLaws.{goes_committed}

-- ---- the calls of a run beside those of the flight

none_before : (o : Option ℕ) → option_map suc o ≡ None → o ≡ None
none_before None e = refl
none_before (Some k) e = cc

-- a run that ended, and made no other call and no more calls than the flight has, made its first ones
pub first_calls : (os ns : List CallMade) → first_other os ns ≡ None → length ns ≤ length os → ns ≡ take (length ns) os
first_calls os [] e l = refl
first_calls [] (n ∷ ns) e l = absurd (omega (arith, l))
first_calls (o ∷ os) (n ∷ ns) e l = elim (cases_Bool (equal call_made.the_row.coded o n)) [
  | inl is ↦ (let same : o ≡ n = equal-true call_made.the_row.coded o n is in
      let rest = first_calls os ns (none_before (first_other os ns) (rw is at e)) (omega (arith, l)) in
      (λ i. sym same i ∷ rest i))
  | inr differs ↦ absurd (none_some (rw differs at e))
]
  where
    none_some : ◌≡◌ {A = Option ℕ} (Some 0) None → ⊥
    none_some e = cc

-- where a run makes another call, both have one there
pub record IsOther (os ns : List CallMade) (k : ℕ) : Type 0 where
  pub within : k < length os
  pub call : CallMade
  pub there : slice_get ns k ≡ Some call

other_by : (o : CallMade) (os : List CallMade) (n : CallMade) (ns : List CallMade) (x : Option ℕ) (k : ℕ) → ((j : ℕ) → x ≡ Some j → IsOther os ns j)
    → option_map suc x ≡ Some k → IsOther (o ∷ os) (n ∷ ns) k
other_by o os n ns None k rest e = cc
other_by o os n ns (Some j) k rest e =
    let is : suc j ≡ k = number_is (suc j) k e in
    let at = rest j refl in
    let P : ℕ → Type 0 = λ i. IsOther (o ∷ os) (n ∷ ns) i in
    subst P is (record { within = (let w = at.within in omega (arith, w)); call = at.call; there = at.there })
  where
    number_is : (a b : ℕ) → Some a ≡ Some b → a ≡ b
    number_is a b e = cc

pub is_other : (os ns : List CallMade) (k : ℕ) → first_other os ns ≡ Some k → IsOther os ns k
is_other [] ns k e = cc
is_other (o ∷ os) [] k e = cc
is_other (o ∷ os) (n ∷ ns) k e = elim (cases_Bool (equal call_made.the_row.coded o n)) [
  | inl is ↦ other_by o os n ns (first_other os ns) k (λ j e. is_other os ns j e) (rw is at e)
  | inr differs ↦ (let zero : Some 0 ≡ Some k = rw differs at e in
      let P : ℕ → Type 0 = λ i. IsOther (o ∷ os) (n ∷ ns) i in
      subst P (number_is 0 k zero) (record { within = omega arith; call = n; there = refl }))
]
  where
    number_is : (a b : ℕ) → Some a ≡ Some b → a ≡ b
    number_is a b e = cc

-- a run that ended made no more calls than it was given answers
abbrev pub HasFew : Flight → Ran → Type 0
HasFew f (Done t) = length t.calls ≤ length f.numbers
HasFew f (Wants slot calls call) = Unit {0}

run_few : (s : Kept) (f : Flight) (ran : Ran) → flight_run s f ≡ ran → HasFew f ran
run_few s f (Wants slot calls call) e = tt
run_few s f (Done t) e =
    let given = map (answers s) f.numbers in
    let took = takes_done (with_program f.program.program s.setting) f.request f.inputs given (rows_after (base s) (unfolded s)) t e in
    let made = counts_done (with_program f.program.program s.setting) f.request f.inputs given (rows_after (base s) (unfolded s)) t e in
    let many : length given ≡ length f.numbers = length-map f.numbers (answers s) in
    let sum = ap length took.1 ∙ length-append t.answers took.0 in
    omega (arith, made, many, sum)

-- ---- what a move leaves

-- where the run made no other call, the commit is of calls of the flight
commits : (s : Kept) (f : Flight) (ran : Ran) → HasFew f ran → first_other f.calls (calls_in ran) ≡ None → FitsCalls (flying s f)
    → (trace_or_dead ran).calls ≡ take (length (trace_or_dead ran).calls) f.calls
commits s f (Wants slot calls call) few same h = refl
commits s f (Done t) few same h =
    let w = flown s f in
    let at = fitting_at s f w h in
    let wants = (each_of_all (WantsItsCalls s.registers) (calls_of_flight f ∷ around s.entries w.lows w.highs) at.places.calls).0 in
    let many = lengths s.registers f.numbers f.calls wants in
    first_calls f.calls t.calls same (omega (arith, few, many))

-- a call that is there is taken
goes_call : (s : Kept) (o : Option CallMade) (c : CallMade) (go : CallMade → After Arrived) (never : After Arrived) → o ≡ Some c → Goes s (go c).service
    → Goes s (call_or_none o go never).service
goes_call s None c go never e h = cc
goes_call s (Some d) c go never e h = (let P : CallMade → Type 0 = λ x. Goes s (go x).service in subst P (sym (call_is d c e)) h)
  where
    call_is : (a b : CallMade) → Some a ≡ Some b → a ≡ b
    call_is a b e = cc

pub goes_named_unsent : (s : Kept) (f : Flight) (c : CallMade) → Goes (flying s f) (flying (named_unsent s c) (with_slot (next_number s.registers) c f))
goes_named_unsent s f c =
    let g = with_slot (next_number s.registers) c f in
    let mid = flying (noted (named (next_number s.registers) c ∷ []) s) g in
    goes_then (flying s f) mid (flying (named_unsent s c) g) (goes_named s f c) (goes_untold mid (next_number s.registers) Changes)

pub goes_changed_unsent : (s : Kept) (f : Flight) (k : ℕ) (c : CallMade) → k < length f.calls
    → Goes (flying s f) (flying (changed_unsent s f k c) (with_change k (next_number s.registers) c f))
goes_changed_unsent s f k c within =
    let g = with_change k (next_number s.registers) c f in
    let mid = flying (noted (change_rows s f k c) s) g in
    goes_then (flying s f) mid (flying (changed_unsent s f k c) g) (goes_changed s f k c within) (goes_untold mid (next_number s.registers) Changes)

-- ---- without sending

goes_completing : (again : Kept → Flight → After Arrived) → ((s : Kept) (f : Flight) → Goes (flying s f) (again s f).service)
    → (s : Kept) (f : Flight) (ran : Ran) → HasFew f ran → (o : Option ℕ) → first_other f.calls (calls_in ran) ≡ o
    → Goes (flying s f) (completing s f ran (change_or o (by_run ran)) again).service
goes_completing again goes s f ran few (Some k) e =
    let at = is_other f.calls (calls_in ran) k e in
    let next = next_number s.registers in
    goes_call (flying s f) (slice_get (calls_in ran) k) at.call (λ c. again (changed_unsent s f k c) (with_change k next c f)) (committed s f (trace_or_dead ran)) at.there
    (goes_then (flying s f) (flying (changed_unsent s f k at.call) (with_change k next at.call f)) (again (changed_unsent s f k at.call) (with_change k next at.call f)).service
    (goes_changed_unsent s f k at.call at.within) (goes (changed_unsent s f k at.call) (with_change k next at.call f)))
goes_completing again goes s f (Done t) few None e = goes_committed s f t (λ h. commits s f (Done t) few e h)
goes_completing again goes s f (Wants slot calls c) few None e =
    let next = next_number s.registers in
    goes_then (flying s f) (flying (named_unsent s c) (with_slot next c f)) (again (named_unsent s c) (with_slot next c f)).service
    (goes_named_unsent s f c) (goes (named_unsent s c) (with_slot next c f))

pub goes_completed : (k : ℕ) (s : Kept) (f : Flight) → Goes (flying s f) (completed k s f).service
goes_completed zero s f = goes_committed s f dead_trace (λ h. refl)
goes_completed (suc k) s f =
    goes_completing (completed k) (goes_completed k) s f (flight_run s f) (run_few s f (flight_run s f) refl)
    (first_other f.calls (calls_in (flight_run s f))) refl

-- ---- with sending

goes_by_changes : (s : Kept) (f : Flight) (k : ℕ) (c : CallMade) (many : Bool) → k < length f.calls
    → Goes (flying s f)
    (if many then completed 17 (changed_unsent s f k c) (with_change k (next_number s.registers) c f)
    else waits (noted (change_rows s f k c) s) (with_change k (next_number s.registers) c f) (next_number s.registers) c).service
goes_by_changes s f k c true within =
    let g = with_change k (next_number s.registers) c f in
    let mid = changed_unsent s f k c in
    goes_then (flying s f) (flying mid g) (completed 17 mid g).service (goes_changed_unsent s f k c within) (goes_completed 17 mid g)
goes_by_changes s f k c false within = goes_changed s f k c within

goes_moved : (s : Kept) (f : Flight) (ran : Ran) → HasFew f ran → (o : Option ℕ) → first_other f.calls (calls_in ran) ≡ o
    → Goes (flying s f) (moved s f ran (change_or o (by_run ran))).service
goes_moved s f ran few (Some k) e =
    let at = is_other f.calls (calls_in ran) k e in
    goes_call (flying s f) (slice_get (calls_in ran) k) at.call (λ c. changed s f k c) (committed s f (trace_or_dead ran)) at.there
    (goes_by_changes s f k at.call (nat_le 3 f.changes) at.within)
goes_moved s f (Done t) few None e = goes_committed s f t (λ h. commits s f (Done t) few e h)
goes_moved s f (Wants slot calls c) few None e = goes_named s f c

pub goes_on_goes : (s : Kept) (f : Flight) → Goes (flying s f) (goes_on s f).service
unfolding goes_on
goes_on_goes s f =
    goes_moved s f (flight_run s f) (run_few s f (flight_run s f) refl) (first_other f.calls (calls_in (flight_run s f))) refl
