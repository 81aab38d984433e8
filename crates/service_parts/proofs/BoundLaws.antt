-- No event leaves more entries and flights than a service may have.
use Rattle.std.proofs.Common.{◌≡◌, ℕ, zero, suc, ◌+◌, ◌<◌, ◌≤◌, List, [], ◌∷◌, ◌++◌, length, find, slice_get, Option, Some, None, Result, nat_eq, nat_lt, nat_le, refl, ap, inl, inr, arith, length-append, eqb-true}
use Rattle.std.proofs.lemmas.Bool.{cases_Bool, cond_both}
use Rattle.std.proofs.lemmas.Bool.Decides.{nat_tests}
use Rattle.lang_core.specs.Traces.{dead_trace}
use Rattle.lang_core.specs.declared.ids.Origin.{Origin}
use Rattle.lang_core.specs.declared.ids.Origin.TheVariants.{Call}
use Rattle.lang_core.specs.declared.inputs.Inputs.{Inputs}
use Rattle.lang_core.specs.declared.request.Request.{Request}
use Rattle.lang_core.specs.declared.trace.CallMade.{CallMade}
use Rattle.lang_core.specs.declared.trace.Trace.{Trace}
use Rattle.handler_run.specs.declared.state.Ran.{Ran}
use Rattle.request_log.specs.Records.{Record, record_of}
use Rattle.request_log.specs.declared.entry.Entry.{Entry}
use Rattle.local_repair.specs.Alone.{trace_or_dead}
use Rattle.repair_messages.specs.declared.messages.AnswerMessage.{AnswerMessage}
use Rattle.journal_rows.specs.declared.callee.TookRow.{TookRow}
use Rattle.call_registers.specs.Registers.{next_number}
use Rattle.call_registers.specs.declared.register.Why.{Why}
use Rattle.flights.specs.Moves.{calls_in, next_move}
use Rattle.flights.specs.declared.flight.Flight.{Flight}
use Rattle.flights.specs.declared.flight.Move.{Move}
use Rattle.flights.specs.declared.flight.Move.TheVariants.{Commit, Name, Change}
use Rattle.service_events.specs.State.{Kept, After, in_all, or_else, is_crowded, is_heavy, has_flight, flight_of, free_flight, without_flight, put_flight, unfolded}
use Rattle.service_events.specs.Calls.{noted, named}
use Rattle.service_events.specs.Flying.{flight_run, awaited, committed, committed_entry, with_slot, with_change, change_rows, waits, wanted_of, named_unsent, changed_unsent, completing, completed, changed, moved, goes_on}
use Rattle.service_events.specs.Arriving.{new_flight, admitted, arrives, known_by, arrives_or_known, by_version, unless_gone, is_for, live_answer_rows, answered_flight, told, failed_flight, abandoned}
use Rattle.service_events.specs.declared.answers.Arrived.{Arrived}
use Rattle.service_events.specs.declared.refusals.ArriveRefused.{ArriveRefused}
use Rattle.service_events.proofs.LiveEntryLaws.{call_keeps}
use Rattle.service_events.proofs.SearchLemmas.{splits}
use Rattle.std.proofs.lemmas.List.{length-drop}

-- so many entries and flights at most
abbrev pub IsBounded : Kept → Type 0
IsBounded s = in_all s ≤ 100000

-- ---- how many flights there are

length_put : (f : Flight) (gs : List Flight) → length (put_flight f gs) ≡ suc (length gs)
length_put f [] = refl
length_put f (g ∷ gs) = elim (cases_Bool (nat_lt f.id g.id)) [
  | inl is ↦ rw is refl
  | inr other ↦ rw other (ap suc (length_put f gs))
]

length_without : (id : ℕ) (fs : List Flight) → length (without_flight id fs) ≤ length fs
length_without id [] = omega arith
length_without id (f ∷ fs) =
    let rest = length_without id fs in
    elim (cases_Bool (has_flight id f)) [
      | inl is ↦ rw is (omega (arith, rest))
      | inr other ↦ rw other (omega (arith, rest))
    ]

length_dropped : (id : ℕ) (fs : List Flight) (f : Flight) → find (has_flight id) fs ≡ Some f → suc (length (without_flight id fs)) ≤ length fs
length_dropped id [] f e = cc
length_dropped id (g ∷ gs) f e = elim (cases_Bool (has_flight id g)) [
  | inl is ↦ (let rest = length_without id gs in rw is (omega (arith, rest)))
  | inr other ↦ (let rest = length_dropped id gs f (rw other at e) in rw other (omega (arith, rest)))
]

-- ---- a flight that goes on

-- how many there are with this flight among them
abbrev all_with : Kept → Flight → ℕ
all_with s f = length (unfolded s) + suc (length (without_flight f.id s.flights))

-- so many are left at most
abbrev Leaves : ℕ → After Arrived → Type 0
Leaves n a = in_all a.service ≤ n

committed_leaves : (s : Kept) (f : Flight) (t : Trace) → Leaves (all_with s f) (committed s f t)
committed_leaves s f t =
    let more = s.entries ++ committed_entry s f t ∷ [] in
    let all : length more ≡ length s.entries + 1 = length-append s.entries (committed_entry s f t ∷ []) in
    let left = length-drop s.horizon s.entries in
    let now = length-drop s.horizon more in
    omega (arith, all, left, now)

waits_leaves : (s : Kept) (f : Flight) (number : ℕ) (call : CallMade) → Leaves (all_with s f) (waits s f number call)
waits_leaves s f number call = (let e = length_put f (without_flight f.id s.flights) in omega (arith, e))

completing_leaves : (s : Kept) (f : Flight) (ran : Ran) (move : Move) (again : Kept → Flight → After Arrived)
    → ((s' : Kept) (f' : Flight) → Leaves (all_with s' f') (again s' f')) → Leaves (all_with s f) (completing s f ran move again)
completing_leaves s f ran Commit again leaves = committed_leaves s f (trace_or_dead ran)
completing_leaves s f ran Name again leaves =
    call_keeps (Leaves (all_with s f)) (wanted_of ran) (λ call. again (named_unsent s call) (with_slot (next_number s.registers) call f)) (committed s f (trace_or_dead ran))
    (λ call. leaves (named_unsent s call) (with_slot (next_number s.registers) call f)) (committed_leaves s f (trace_or_dead ran))
completing_leaves s f ran (Change slot) again leaves =
    call_keeps (Leaves (all_with s f)) (slice_get (calls_in ran) slot) (λ call. again (changed_unsent s f slot call) (with_change slot (next_number s.registers) call f)) (committed s f (trace_or_dead ran))
    (λ call. leaves (changed_unsent s f slot call) (with_change slot (next_number s.registers) call f)) (committed_leaves s f (trace_or_dead ran))

completed_leaves : (runs : ℕ) (s : Kept) (f : Flight) → Leaves (all_with s f) (completed runs s f)
completed_leaves zero s f = committed_leaves s f dead_trace
completed_leaves (suc runs) s f =
    completing_leaves s f (flight_run s f) (next_move f (flight_run s f)) (completed runs) (λ s' f'. completed_leaves runs s' f')

changed_leaves : (s : Kept) (f : Flight) (slot : ℕ) (call : CallMade) → Leaves (all_with s f) (changed s f slot call)
changed_leaves s f slot call =
    cond_both (nat_le 3 f.changes) (completed 17 (changed_unsent s f slot call) (with_change slot (next_number s.registers) call f))
    (waits (noted (change_rows s f slot call) s) (with_change slot (next_number s.registers) call f) (next_number s.registers) call) (Leaves (all_with s f))
    (λ _. completed_leaves 17 (changed_unsent s f slot call) (with_change slot (next_number s.registers) call f))
    (λ _. waits_leaves (noted (change_rows s f slot call) s) (with_change slot (next_number s.registers) call f) (next_number s.registers) call)

moved_leaves : (s : Kept) (f : Flight) (ran : Ran) (move : Move) → Leaves (all_with s f) (moved s f ran move)
moved_leaves s f ran Commit = committed_leaves s f (trace_or_dead ran)
moved_leaves s f ran Name =
    call_keeps (Leaves (all_with s f)) (wanted_of ran)
    (λ call. waits (noted (named (next_number s.registers) call ∷ []) s) (with_slot (next_number s.registers) call f) (next_number s.registers) call) (committed s f (trace_or_dead ran))
    (λ call. waits_leaves (noted (named (next_number s.registers) call ∷ []) s) (with_slot (next_number s.registers) call f) (next_number s.registers) call)
    (committed_leaves s f (trace_or_dead ran))
moved_leaves s f ran (Change slot) =
    call_keeps (Leaves (all_with s f)) (slice_get (calls_in ran) slot) (λ call. changed s f slot call) (committed s f (trace_or_dead ran))
    (λ call. changed_leaves s f slot call) (committed_leaves s f (trace_or_dead ran))

goes_on_leaves : (s : Kept) (f : Flight) → Leaves (all_with s f) (goes_on s f)
unfolding goes_on
goes_on_leaves s f = moved_leaves s f (flight_run s f) (next_move f (flight_run s f))

-- ---- an arrival

-- where nothing is too much, there is a place for one more
pub uncrowded : (s : Kept) (more : Option ℕ) → or_else (is_crowded s) more ≡ None → in_all s < 100000
uncrowded s more none = elim (cases_Bool (nat_le 100000 (in_all s))) [
  | inl is ↦ (let some : Some (in_all s) ≡ None = rw is at none in cc)
  | inr isnt ↦ grind (arith, nat_tests)
]

admitted_bounded : (s : Kept) (o : Origin) (q : Request) (i : Inputs) (full : Option ℕ) → IsBounded s → (full ≡ None → in_all s < 100000) → IsBounded (admitted s o q i full).service
admitted_bounded s o q i (Some n) h below = h
admitted_bounded s o q i None h below =
    let place = below refl in
    let all = goes_on_leaves s (new_flight s o q i) in
    let others = length_without (free_flight s) s.flights in
    omega (arith, place, all, others)

pub arrives_bounded : (s : Kept) (o : Origin) (q : Request) (i : Inputs) → IsBounded s → IsBounded (arrives s o q i).service
arrives_bounded s o q i h = admitted_bounded s o q i (or_else (is_crowded s) (is_heavy s)) h (uncrowded s (is_heavy s))

known_bounded : (s : Kept) (c : List ℕ) (n : ℕ) (e : Entry) (m : Option Record) → IsBounded s → IsBounded (known_by s c n e m).service
known_bounded s c n e None h = h
known_bounded s c n e (Some m) h = h

pub call_bounded : (s : Kept) (c : List ℕ) (n : ℕ) (q : Request) (i : Inputs) (e : Option Entry) → IsBounded s → IsBounded (arrives_or_known s c n q i e).service
call_bounded s c n q i None h = arrives_bounded s (Call c n) q i h
call_bounded s c n q i (Some e) h = known_bounded s c n e (record_of e) h

version_bounded : (s : Kept) (version : ℕ) (d : Option Request) (a : After (Result Arrived ArriveRefused)) → IsBounded s → IsBounded a.service → IsBounded (by_version s version d a).service
version_bounded s version None a h k = h
version_bounded s version (Some q) a h k = k

pub gone_bounded : (s : Kept) (t : Option TookRow) (a : After (Result Arrived ArriveRefused)) → IsBounded s → IsBounded a.service → IsBounded (unless_gone s t a).service
gone_bounded s None a h k = k
gone_bounded s (Some t) a h k = version_bounded s t.version t.desired a h k

-- ---- a flight that is there

found_bounded : (s : Kept) (id : ℕ) (f : Flight) → IsBounded s → flight_of id s ≡ Some f → all_with s f ≤ 100000
found_bounded s id f h found =
    let same : f.id ≡ id = eqb-true f.id id (splits (has_flight id) s.flights f found).passes in
    let less = length_dropped id s.flights f found in
    let other : length (without_flight f.id s.flights) ≡ length (without_flight id s.flights) = ap (λ k. length (without_flight k s.flights)) same in
    omega (arith, h, less, other)

pub answered_bounded : (s : Kept) (id : ℕ) (a : AnswerMessage) (o : Option Flight) → flight_of id s ≡ o → IsBounded s → IsBounded (answered_flight s id a o).service
answered_bounded s id a None is h = h
answered_bounded s id a (Some f) is h = elim (cases_Bool (is_for s a f)) [
  | inl does ↦ (let all = goes_on_leaves (noted (live_answer_rows s a) s) f in let few = found_bounded s id f h is in rw does (omega (arith, all, few)))
  | inr isnt ↦ rw isnt h
]

pub failed_bounded : (s : Kept) (id number : ℕ) (why : Why) (o : Option Flight) → flight_of id s ≡ o → IsBounded s → IsBounded (failed_flight s id number why o).service
failed_bounded s id number why None is h = h
failed_bounded s id number why (Some f) is h = elim (cases_Bool (nat_eq (awaited f) number)) [
  | inl does ↦ (let all = goes_on_leaves (told number why s) f in let few = found_bounded s id f h is in rw does (omega (arith, all, few)))
  | inr isnt ↦ rw isnt h
]

pub abandoned_bounded : (s : Kept) (o : Option Flight) → IsBounded s → IsBounded (abandoned s o).service
abandoned_bounded s None h = h
abandoned_bounded s (Some f) h = (let less = length_without f.id s.flights in omega (arith, h, less))
