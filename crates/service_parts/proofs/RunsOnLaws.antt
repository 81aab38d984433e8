-- Runs one behind another come to an end, and there is one way in which they go.
use Rattle.std.proofs.Common.{◌≡◌, ℕ, zero, suc, ◌+◌, ◌≤◌, Bool, true, false, List, [], ◌∷◌, ◌++◌, Option, Some, None, Result, Ok, Err, IfOk, IsSomeAnd, length, slice_get, nat_eq, nat_le, refl, sym, ap, ◌∙◌, subst, arith, length-append, if◌then◌else◌}
use Rattle.std.proofs.lemmas.List.{length-map}
use Rattle.lang_core.specs.Traces.{dead_trace}
use Rattle.lang_core.specs.declared.cells.Cell.{Cell}
use Rattle.lang_core.specs.declared.ids.Origin.{Origin}
use Rattle.lang_core.specs.declared.ids.Origin.TheVariants.{Outside, Call}
use Rattle.lang_core.specs.declared.inputs.Inputs.{Inputs}
use Rattle.lang_core.specs.declared.request.Request.{Request}
use Rattle.lang_core.specs.declared.request.Response.{Response}
use Rattle.lang_core.specs.declared.trace.CallMade.{CallMade}
use Rattle.lang_core.specs.declared.trace.Trace.{Trace}
use Rattle.handler_run.specs.Handlers.{run_of}
use Rattle.handler_run.specs.declared.state.Ran.{Ran}
use Rattle.handler_run.specs.declared.state.Ran.TheVariants.{Done, Wants}
use Rattle.request_log.specs.Entries.{find_call, is_alive}
use Rattle.request_log.specs.Records.{Record, record_of}
use Rattle.request_log.specs.declared.entry.Entry.{Entry}
use Rattle.request_log.specs.declared.entry.Made.{Made}
use Rattle.local_repair.specs.Alone.{trace_or_dead}
use Rattle.local_repair.specs.Programs.{setting_of}
use Rattle.local_repair.specs.Steps.{answer_at, calls_of_made}
use Rattle.local_repair.proofs.HandlerLemmas.{handler}
use Rattle.repair_messages.specs.declared.messages.AnswerMessage.{AnswerMessage}
use Rattle.journal_rows.specs.Words.{last_taken}
use Rattle.journal_rows.specs.declared.callee.TookRow.{TookRow}
use Rattle.journal_rows.specs.declared.caller.AckHow.TheVariants.{WithAnswer}
use Rattle.journal_rows.specs.declared.row.Row.{Row}
use Rattle.journal_rows.specs.declared.row.Row.TheVariants.{SawAck}
use Rattle.call_registers.specs.Registers.{next_number, register}
use Rattle.call_registers.specs.declared.register.Register.{Register}
use Rattle.call_registers.specs.declared.register.Why.{Why}
use Rattle.flights.specs.Moves.{calls_in, first_other, by_run, change_or, next_move}
use Rattle.flights.specs.declared.flight.Flight.{Flight}
use Rattle.flights.specs.declared.flight.Move.{Move}
use Rattle.flights.specs.declared.flight.Move.TheVariants.{Commit, Name, Change}
use Rattle.service_events.specs.State.{Kept, After, after, answers, base, or_else, is_crowded, is_heavy, is_in_flight, flight_of, unfolded}
use Rattle.service_events.specs.Arriving.{accepted, new_flight, admitted, known_by, arrives_or_known, by_version, unless_gone, arrive_event, is_for, live_answer_rows, answered_flight, call_answered_event, told, failed_flight, call_failed_event, is_new_to, seen_live}
use Rattle.service_events.specs.Calls.{after_rows, noted, named}
use Rattle.service_events.specs.Doing.{Does, arrive_memory, call_memory}
use Rattle.service_events.specs.Fits.{Fits}
use Rattle.service_events.specs.Flying.{awaited, flight_run, committed, with_slot, with_change, change_rows, waits, named_unsent, changed_unsent, completing, completed, changed, moved, goes_on, wanted_of}
use Rattle.service_events.specs.Steps.{Stale, ended_or, rerun, new_trace, new_record, stale_in, step_by, step_event}
use Rattle.service_events.specs.declared.answers.Arrived.{Arrived}
use Rattle.service_events.specs.declared.answers.Arrived.TheVariants.{Done as Committed, Call as Sends, Known}
use Rattle.service_events.specs.declared.refusals.ArriveRefused.{ArriveRefused}
use Rattle.service_events.specs.declared.refusals.ArriveRefused.TheVariants.{NotYet}
use Rattle.service_events.specs.declared.refusals.CallRefused.{CallRefused}
use Rattle.service_events.specs.declared.refusals.CallRefused.TheVariants.{NoFlight}
use Rattle.service_events.proofs.AloftLemmas.{IsAloft, acked_aloft, aloft_of, answered_aloft, told_aloft}
use Rattle.service_events.proofs.GrowthLemmas.{follows_none, few_calls}
use Rattle.service_events.proofs.LiveRuns as live
use Rattle.service_events.proofs.LiveRuns.{runs_of, answers_given, grows, changed_aloft, name_completes, change_completes, RanBehind}
use Rattle.service_events.proofs.CallLaws.{calls_of_fits}
use Rattle.service_events.proofs.GoingLaws.{is_other}
use Rattle.service_parts.proofs.CommitLaws.{with_call}
use Rattle.service_events.specs.RunsOn.{Ends, TakesUnsent, Completes, Changes, Moves, GoesOn, GoesOnTo, Begins, TakesAnswer, RunsThrough, RunsAgain, IsRecord, StepsBy, IsStep}

-- ---- a flight is completed

abbrev With : List CallMade → Kept → Flight → Ran → Move → After Arrived → Type 0
With [] s f ran move a = Ends s f ran move a
With (c ∷ cs) s f ran move a = TakesUnsent s f ran move c (λ s' f'. Completes cs s' f' a)

abbrev Completed : Kept → Flight → After Arrived → Type 0
Completed s f a = (calls : List CallMade) × Completes calls s f a

with_calls : (cs : List CallMade) (s : Kept) (f : Flight) (a : After Arrived) → With cs s f (flight_run s f) (next_move f (flight_run s f)) a → Completes cs s f a
with_calls [] s f a h = h
with_calls (c ∷ cs) s f a h = h

completing_goes : (again : Kept → Flight → After Arrived) (s : Kept) (f : Flight) (k : ℕ)
    → ((t : Kept) (g : Flight) → live.Completes t g (k + 1) → Completed t g (again t g)) → live.Completes s f k
    → (ran : Ran) → flight_run s f ≡ ran → (o : Option ℕ) → first_other f.calls (calls_in ran) ≡ o
    → (calls : List CallMade) × With calls s f ran (change_or o (by_run ran)) (completing s f ran (change_or o (by_run ran)) again)
completing_goes again s f k goes c ran is (Some slot) e =
    let next = next_number s.registers in
    let at = is_other f.calls (calls_in ran) slot e in
    let same = ap calls_in is in
    let t = changed_unsent s f slot at.call in
    let g = with_change slot next at.call f in
    let rest = goes t g (change_completes s f k slot at.call (ap (first_other f.calls) same ∙ e) (ap (λ xs. slice_get xs slot) same ∙ at.there) c) in
    with_call (λ a. (calls : List CallMade) × With calls s f ran (Change slot) a) (slice_get (calls_in ran) slot) at.call (λ x. again (changed_unsent s f slot x) (with_change slot next x f))
    (committed s f (trace_or_dead ran)) at.there
    (at.call ∷ rest.0, (at.there, rest.1))
completing_goes again s f k goes c (Done t) is None e = ([], (t, refl, refl))
completing_goes again s f k goes c (Wants place made call) is None e =
    let next = next_number s.registers in
    let t = named_unsent s call in
    let g = with_slot next call f in
    let rest = goes t g (name_completes s f k place made call is (ap (λ r. first_other f.calls (calls_in r)) is ∙ e) c) in
    (call ∷ rest.0, (refl, rest.1))

-- in at most 17 runs
completed_goes : (runs : ℕ) (s : Kept) (f : Flight) (k : ℕ) → 17 ≤ k + runs → live.Completes s f k → Completed s f (completed runs s f)
completed_goes zero s f k enough c =
    (let there = c.follows.there in let few = few_calls (runs_of s f) (grows s f) (answers_given s f) in absurd (omega (arith, enough, there, few)))
completed_goes (suc runs) s f k enough c =
    let w = completing_goes (completed runs) s f k (λ t g d. completed_goes runs t g (k + 1) (omega (arith, enough)) d) c
    (flight_run s f) refl (first_other f.calls (calls_in (flight_run s f))) refl in
    (w.0, with_calls w.0 s f (completed (suc runs) s f) w.1)

-- ---- a flight goes on

changed_goes : (s : Kept) (f : Flight) (slot : ℕ) (c : CallMade) (many : Bool) → IsAloft s.registers f.numbers f.calls → RanBehind s
    → Changes many s f slot c
    (if many then completed 17 (changed_unsent s f slot c) (with_change slot (next_number s.registers) c f)
    else waits (noted (change_rows s f slot c) s) (with_change slot (next_number s.registers) c f) (next_number s.registers) c)
changed_goes s f slot c true aloft runs =
    let t = changed_unsent s f slot c in
    let g = with_change slot (next_number s.registers) c f in
    let own = changed_aloft s f slot c aloft in
    completed_goes 17 t g 0 (omega arith)
    (record { aloft = own; follows = follows_none (runs_of t g) (answers_given t g) g.calls (length-map g.numbers (answers t) ∙ own.many); runs = runs })
changed_goes s f slot c false aloft runs = refl

moved_goes : (s : Kept) (f : Flight) (ran : Ran) (o : Option ℕ) → first_other f.calls (calls_in ran) ≡ o
    → IsAloft s.registers f.numbers f.calls → RanBehind s → Moves s f ran (change_or o (by_run ran)) (moved s f ran (change_or o (by_run ran)))
moved_goes s f ran (Some slot) e aloft runs =
    let at = is_other f.calls (calls_in ran) slot e in
    with_call (Moves s f ran (Change slot)) (slice_get (calls_in ran) slot) at.call (λ c. changed s f slot c) (committed s f (trace_or_dead ran)) at.there
    (at.call, at.there, changed_goes s f slot at.call (nat_le 3 f.changes) aloft runs)
moved_goes s f (Done t) None e aloft runs = (t, refl, refl)
moved_goes s f (Wants place made c) None e aloft runs = (c, refl, refl)

flight_goes : (s : Kept) (f : Flight) → IsAloft s.registers f.numbers f.calls → RanBehind s → GoesOn s f (goes_on s f)
unfolding goes_on
flight_goes s f aloft runs = moved_goes s f (flight_run s f) (first_other f.calls (calls_in (flight_run s f))) refl aloft runs

-- ---- there is one way

one_end : (s : Kept) (f : Flight) (ran : Ran) (move : Move) (a b : After Arrived) → Ends s f ran move a → Ends s f ran move b → a ≡ b
one_end s f ran Commit a b x y =
    let same : x.0 ≡ y.0 = done_same x.0 y.0 (sym x.1 ∙ y.1) in
    x.2 ∙ ap (committed s f) same ∙ sym y.2
  where
    done_same : (t u : Trace) → Done t ≡ Done u → t ≡ u
    done_same t u e = cc
one_end s f ran Name a b x y = absurd x
one_end s f ran (Change slot) a b x y = absurd x

call_same : (c d : CallMade) (o : Option CallMade) → o ≡ Some c → o ≡ Some d → c ≡ d
call_same c d o x y = some_same c d (sym x ∙ y)
  where
    some_same : (c d : CallMade) → Some c ≡ Some d → c ≡ d
    some_same c d e = cc

ends_or_takes : (s : Kept) (f : Flight) (ran : Ran) (move : Move) (c : CallMade) (Then : Kept → Flight → Type 0) (a : After Arrived) → Ends s f ran move a → TakesUnsent s f ran move c Then → ⊥
ends_or_takes s f ran Commit c Then a x y = y
ends_or_takes s f ran Name c Then a x y = x
ends_or_takes s f ran (Change slot) c Then a x y = x

one_take : (s : Kept) (f : Flight) (ran : Ran) (move : Move) (c d : CallMade) (A B : Kept → Flight → Type 0) (a b : After Arrived)
    → ((t : Kept) (g : Flight) → A t g → B t g → a ≡ b) → TakesUnsent s f ran move c A → TakesUnsent s f ran move d B → a ≡ b
one_take s f ran Commit c d A B a b one x y = absurd x
one_take s f ran Name c d A B a b one x y =
    let same = call_same c d (wanted_of ran) x.0 y.0 in
    let next = next_number s.registers in
    let P : CallMade → Type 0 = λ k. A (named_unsent s k) (with_slot next k f) in
    one (named_unsent s d) (with_slot next d f) (subst P same x.1) y.1
one_take s f ran (Change slot) c d A B a b one x y =
    let same = call_same c d (slice_get (calls_in ran) slot) x.0 y.0 in
    let next = next_number s.registers in
    let P : CallMade → Type 0 = λ k. A (changed_unsent s f slot k) (with_change slot next k f) in
    one (changed_unsent s f slot d) (with_change slot next d f) (subst P same x.1) y.1

one_completed : (cs ds : List CallMade) (s : Kept) (f : Flight) (a b : After Arrived) → Completes cs s f a → Completes ds s f b → a ≡ b
one_completed [] [] s f a b x y = one_end s f (flight_run s f) (next_move f (flight_run s f)) a b x y
one_completed [] (d ∷ ds) s f a b x y = absurd (ends_or_takes s f (flight_run s f) (next_move f (flight_run s f)) d (λ t g. Completes ds t g b) a x y)
one_completed (c ∷ cs) [] s f a b x y = absurd (ends_or_takes s f (flight_run s f) (next_move f (flight_run s f)) c (λ t g. Completes cs t g a) b y x)
one_completed (c ∷ cs) (d ∷ ds) s f a b x y =
    one_take s f (flight_run s f) (next_move f (flight_run s f)) c d (λ t g. Completes cs t g a) (λ t g. Completes ds t g b) a b
    (λ t g u v. one_completed cs ds t g a b u v) x y

one_change : (many : Bool) (s : Kept) (f : Flight) (slot : ℕ) (c : CallMade) (a b : After Arrived) → Changes many s f slot c a → Changes many s f slot c b → a ≡ b
one_change true s f slot c a b x y = one_completed x.0 y.0 (changed_unsent s f slot c) (with_change slot (next_number s.registers) c f) a b x.1 y.1
one_change false s f slot c a b x y = x ∙ sym y

one_move : (s : Kept) (f : Flight) (ran : Ran) (move : Move) (a b : After Arrived) → Moves s f ran move a → Moves s f ran move b → a ≡ b
one_move s f ran Commit a b x y = one_end s f ran Commit a b x y
one_move s f ran Name a b x y =
    let next = next_number s.registers in
    x.2 ∙ ap (λ k. waits (noted (named next k ∷ []) s) (with_slot next k f) next k) (call_same x.0 y.0 (wanted_of ran) x.1 y.1) ∙ sym y.2
one_move s f ran (Change slot) a b x y =
    let same = call_same x.0 y.0 (slice_get (calls_in ran) slot) x.1 y.1 in
    let C : CallMade → Type 0 = λ k. Changes (nat_le 3 f.changes) s f slot k a in
    one_change (nat_le 3 f.changes) s f slot y.0 a b (subst C same x.2) y.2

-- a flight goes on in one way
pub one_going : (s : Kept) (f : Flight) (a b : After Arrived) → GoesOn s f a → GoesOn s f b → a ≡ b
one_going s f a b x y = one_move s f (flight_run s f) (next_move f (flight_run s f)) a b x y

-- ---- the events

-- none answers that a call is known
committed_unknown : (s : Kept) (f : Flight) (t : Trace) (a : After Arrived) (m : AnswerMessage) → a ≡ committed s f t → a.answer ≡ Known m → ⊥
committed_unknown s f t a m same is =
    (let never : (committed s f t).answer ≡ Known m = sym (ap (λ (b : After Arrived). b.answer) same) ∙ is in cc)

waits_unknown : (s : Kept) (f : Flight) (number : ℕ) (c : CallMade) (a : After Arrived) (m : AnswerMessage) → a ≡ waits s f number c → a.answer ≡ Known m → ⊥
waits_unknown s f number c a m same is =
    (let never : (waits s f number c).answer ≡ Known m = sym (ap (λ (b : After Arrived). b.answer) same) ∙ is in cc)

ends_unknown : (s : Kept) (f : Flight) (ran : Ran) (move : Move) (a : After Arrived) (m : AnswerMessage) → Ends s f ran move a → a.answer ≡ Known m → ⊥
ends_unknown s f ran Commit a m x is = committed_unknown s f x.0 a m x.2 is
ends_unknown s f ran Name a m x is = x
ends_unknown s f ran (Change slot) a m x is = x

takes_unknown : (s : Kept) (f : Flight) (ran : Ran) (move : Move) (c : CallMade) (Then : Kept → Flight → Type 0) → ((t : Kept) (g : Flight) → Then t g → ⊥)
    → TakesUnsent s f ran move c Then → ⊥
takes_unknown s f ran Commit c Then never x = x
takes_unknown s f ran Name c Then never x = never (named_unsent s c) (with_slot (next_number s.registers) c f) x.1
takes_unknown s f ran (Change slot) c Then never x = never (changed_unsent s f slot c) (with_change slot (next_number s.registers) c f) x.1

completes_unknown : (cs : List CallMade) (s : Kept) (f : Flight) (a : After Arrived) (m : AnswerMessage) → Completes cs s f a → a.answer ≡ Known m → ⊥
completes_unknown [] s f a m x is = ends_unknown s f (flight_run s f) (next_move f (flight_run s f)) a m x is
completes_unknown (c ∷ cs) s f a m x is =
    takes_unknown s f (flight_run s f) (next_move f (flight_run s f)) c (λ t g. Completes cs t g a) (λ t g y. completes_unknown cs t g a m y is) x

change_unknown : (many : Bool) (s : Kept) (f : Flight) (slot : ℕ) (c : CallMade) (a : After Arrived) (m : AnswerMessage) → Changes many s f slot c a → a.answer ≡ Known m → ⊥
change_unknown true s f slot c a m x is = completes_unknown x.0 (changed_unsent s f slot c) (with_change slot (next_number s.registers) c f) a m x.1 is
change_unknown false s f slot c a m x is =
    waits_unknown (noted (change_rows s f slot c) s) (with_change slot (next_number s.registers) c f) (next_number s.registers) c a m x is

move_unknown : (s : Kept) (f : Flight) (ran : Ran) (move : Move) (a : After Arrived) (m : AnswerMessage) → Moves s f ran move a → a.answer ≡ Known m → ⊥
move_unknown s f ran Commit a m x is = ends_unknown s f ran Commit a m x is
move_unknown s f ran Name a m x is =
    let next = next_number s.registers in
    waits_unknown (noted (named next x.0 ∷ []) s) (with_slot next x.0 f) next x.0 a m x.2 is
move_unknown s f ran (Change slot) a m x is = change_unknown (nat_le 3 f.changes) s f slot x.0 a m x.2 is

-- what is answered, where that is no refusal
abbrev Leaves : {E : Type 0} → Kept → Flight → Kept → Result Arrived E → Type 0
Leaves s f t answer = IfOk answer (λ arrived. Begins s f arrived t)

goes_to : (s : Kept) (f : Flight) (a : After Arrived) → GoesOn s f a → GoesOnTo s f a
goes_to s f a h = record { goes = h; alone = λ other h'. one_going s f other a h' h }

begins : (s : Kept) (f : Flight) (t : Kept) (x : Arrived) → GoesOn s f (after t x) → Begins s f x t
begins s f t (Committed index id back) h = goes_to s f (after t (Committed index id back)) h
begins s f t (Sends flight set) h = goes_to s f (after t (Sends flight set)) h
begins s f t (Known m) h = absurd (move_unknown s f (flight_run s f) (next_move f (flight_run s f)) (after t (Known m)) m h refl)

admitted_goes : (s : Kept) (o : Origin) (q : Request) (i : Inputs) (n : Option ℕ) → Fits s → Leaves s (new_flight s o q i) (admitted s o q i n).service (admitted s o q i n).answer
admitted_goes s o q i (Some n) fits = tt
admitted_goes s o q i None fits =
    let f = new_flight s o q i in
    let calls = calls_of_fits s fits in
    let a = goes_on s f in
    begins s f a.service a.answer (flight_goes s f (record { numbered = calls.sent.numbered; apart = tt; within = tt; many = refl }) (fits.horizon.within, fits.runs))

known_goes : (s : Kept) (f : Flight) (c : List ℕ) (n : ℕ) (e : Entry) (m : Option Record) → Leaves s f (known_by s c n e m).service (known_by s c n e m).answer
known_goes s f c n e None = tt
known_goes s f c n e (Some m) = refl

call_goes : (s : Kept) (c : List ℕ) (n : ℕ) (q : Request) (i : Inputs) (e : Option Entry) → Fits s
    → Leaves s (new_flight s (Call c n) q i) (arrives_or_known s c n q i e).service (arrives_or_known s c n q i e).answer
call_goes s c n q i (Some e) fits = known_goes s (new_flight s (Call c n) q i) c n e (record_of e)
call_goes s c n q i None fits = admitted_goes s (Call c n) q i (or_else (is_crowded s) (is_heavy s)) fits

version_goes : (s : Kept) (f : Flight) (version : ℕ) (d : Option Request) (known : After (Result Arrived ArriveRefused)) → Leaves s f known.service known.answer
    → Leaves s f (by_version s version d known).service (by_version s version d known).answer
version_goes s f version None known h = tt
version_goes s f version (Some q) known h = h

gone_goes : (s : Kept) (f : Flight) (t : Option TookRow) (known : After (Result Arrived ArriveRefused)) → Leaves s f known.service known.answer
    → Leaves s f (unless_gone s t known).service (unless_gone s t known).answer
gone_goes s f None known h = h
gone_goes s f (Some t) known h = version_goes s f t.version t.desired known h

flying_goes : (s : Kept) (f : Flight) (n : ℕ) (b : Bool) (other : After (Result Arrived ArriveRefused)) → Leaves s f other.service other.answer
    → Leaves s f (if b then after s (Err (NotYet n)) else other).service (if b then after s (Err (NotYet n)) else other).answer
flying_goes s f n true other h = tt
flying_goes s f n false other h = h

-- a live request that arrives runs
pub arrive_goes : (s : Kept) (o : Origin) (q : Request) (i : Inputs) → Fits s → Leaves s (new_flight s o q i) (arrive_event s o q i).service (arrive_event s o q i).answer
arrive_goes s Outside q i fits = admitted_goes s Outside q i (or_else (is_crowded s) (is_heavy s)) fits
arrive_goes s (Call c n) q i fits =
    let f = new_flight s (Call c n) q i in
    flying_goes s f n (is_in_flight (Call c n) s) (unless_gone s (last_taken c n s.journal) (arrives_or_known s c n q i (find_call (Call c n) s.entries)))
    (gone_goes s f (last_taken c n s.journal) (arrives_or_known s c n q i (find_call (Call c n) s.entries)) (call_goes s c n q i (find_call (Call c n) s.entries) fits))

-- what is answered, where there is such a flight
abbrev LeavesOf : {E : Type 0} → Kept → Option Flight → Kept → Result Arrived E → Type 0
LeavesOf s o t answer = IfOk answer (λ arrived. IsSomeAnd o (λ f. GoesOnTo s f (after t arrived)))

-- a flight that is there goes on, with the same entries and setting
known_flight : (s : Kept) (f : Flight) → IsAloft s.registers f.numbers f.calls → RanBehind s → GoesOnTo s f (goes_on s f)
known_flight s f aloft runs = goes_to s f (goes_on s f) (flight_goes s f aloft runs)

heard_aloft : (a : AnswerMessage) (new : Bool) (rs : List Register) (at : ℕ) (ns : List ℕ) (cs : List CallMade) → IsAloft rs ns cs
    → IsAloft (after_rows at rs (if new then seen_live a ∷ [] else [])) ns cs
heard_aloft a true rs at ns cs l =
    answered_aloft a.number (record { answer_version = a.answer_version; version = a.version; response = a.response }) rs ns cs l
heard_aloft a false rs at ns cs l = l

answered_goes : (s : Kept) (id : ℕ) (a : AnswerMessage) (o : Option Flight) → flight_of id s ≡ o → Fits s
    → LeavesOf (noted (live_answer_rows s a) s) o (answered_flight s id a o).service (answered_flight s id a o).answer
answered_goes s id a None is fits = tt
answered_goes s id a (Some f) is fits = by_test (is_for s a f)
  where
    saw : Row
    saw = SawAck (record { number = a.number; version = a.version; how = WithAnswer a.answer_version })

    by_test : (b : Bool)
        → LeavesOf (noted (live_answer_rows s a) s) (Some f) (if b then accepted (goes_on (noted (live_answer_rows s a) s) f) else after s (Err (NoFlight id))).service
        (if b then accepted (goes_on (noted (live_answer_rows s a) s) f) else after s (Err (NoFlight id))).answer
    by_test true =
        known_flight (noted (live_answer_rows s a) s) f
        (heard_aloft a (is_new_to a (register a.number s.registers)) (after_rows (length s.journal) s.registers (saw ∷ [])) (length s.journal + 1) f.numbers f.calls
        (acked_aloft a.number a.version s.registers f.numbers f.calls (aloft_of s id f fits is))) (fits.horizon.within, fits.runs)
    by_test false = tt

-- so does one whose call was answered
pub call_answered_goes : (s : Kept) (id : ℕ) (a : AnswerMessage) → Fits s
    → LeavesOf (noted (live_answer_rows s a) s) (flight_of id s) (call_answered_event s id a).service (call_answered_event s id a).answer
call_answered_goes s id a fits = answered_goes s id a (flight_of id s) refl fits

failed_goes : (s : Kept) (id number : ℕ) (why : Why) (o : Option Flight) → flight_of id s ≡ o → Fits s
    → LeavesOf (told number why s) o (failed_flight s id number why o).service (failed_flight s id number why o).answer
failed_goes s id number why None is fits = tt
failed_goes s id number why (Some f) is fits = by_test (nat_eq (awaited f) number)
  where
    by_test : (b : Bool)
        → LeavesOf (told number why s) (Some f) (if b then accepted (goes_on (told number why s) f) else after s (Err (NoFlight id))).service
        (if b then accepted (goes_on (told number why s) f) else after s (Err (NoFlight id))).answer
    by_test true = known_flight (told number why s) f (told_aloft number why s.registers f.numbers f.calls (aloft_of s id f fits is)) (fits.horizon.within, fits.runs)
    by_test false = tt

-- or failed
pub call_failed_goes : (s : Kept) (id number : ℕ) (why : Why) → Fits s
    → LeavesOf (told number why s) (flight_of id s) (call_failed_event s id number why).service (call_failed_event s id number why).answer
call_failed_goes s id number why fits = failed_goes s id number why (flight_of id s) refl fits

-- ---- an entry that runs again

turn_goes : (run : List Response → Ran) (answer : ℕ → CallMade → Response) (given : List Response) (ran : Ran) (more : ℕ → CallMade → Trace) → run given ≡ ran
    → ((slot : ℕ) (calls : List CallMade) (call : CallMade) → ran ≡ Wants slot calls call
    → (rs : List Response) × RunsThrough run answer (given ++ answer slot call ∷ []) rs (more slot call))
    → (rs : List Response) × RunsThrough run answer given rs (ended_or ran more)
turn_goes run answer given (Done t) more is goes = ([], is)
turn_goes run answer given (Wants slot calls call) more is goes =
    let rest = goes slot calls call refl in
    let r = answer slot call in
    let T : Ran → Type 0 = λ x. TakesAnswer x r answer (RunsThrough run answer (given ++ r ∷ []) rest.0 (more slot call)) in
    (r ∷ rest.0, subst T (sym is) (refl, rest.1))

module _ (s : Kept) (rows : List Cell) (e : Entry) where
  abbrev runs : List Response → Ran
  runs = λ xs. run_of (setting_of s.setting e) e.request e.inputs xs rows

  abbrev answer : ℕ → CallMade → Response
  answer = answer_at (answers s) (calls_of_made e.made) e.slots

  -- in at most 17 runs
  rerun_goes : (turns : ℕ) (given : List Response) → 16 ≤ turns + length given → (rs : List Response) × RunsThrough runs answer given rs (rerun (suc turns) s rows e given)
  rerun_goes zero given enough =
      turn_goes runs answer given (runs given) (λ slot call. rerun zero s rows e (given ++ answer slot call ∷ [])) refl
      (λ slot calls call is.
      let asks = ((handler (setting_of s.setting e)).steady e.request e.inputs rows).asks given slot calls call is in
      absurd (let at = asks.0 in let few = asks.2 in omega (arith, at, few, enough)))
  rerun_goes (suc turns) given enough =
      turn_goes runs answer given (runs given) (λ slot call. rerun (suc turns) s rows e (given ++ answer slot call ∷ [])) refl
      (λ slot calls call is. rerun_goes turns (given ++ answer slot call ∷ []) (let one = length-append given (answer slot call ∷ []) in omega (arith, one, enough)))

  again_goes : (b : Bool) → RunsAgain b s rows e (if b then rerun 17 s rows e [] else dead_trace)
  again_goes true = rerun_goes 16 [] (omega arith)
  again_goes false = refl

  record_is : IsRecord s rows e (new_record s rows e)
  unfolding new_trace
  record_is = record { alive = refl; version = refl; request = refl; ran = again_goes (is_alive e) }

takes_both : (ran : Ran) (answer : ℕ → CallMade → Response) (r q : Response) (A B : Type 0) → TakesAnswer ran r answer A → TakesAnswer ran q answer B → (r ≡ q) × A × B
takes_both (Done t) answer r q A B x y = absurd x
takes_both (Wants slot calls call) answer r q A B x y = (x.0 ∙ sym y.0, x.1, y.1)

ended_or_takes : (ran : Ran) (answer : ℕ → CallMade → Response) (r : Response) (A : Type 0) (t : Trace) → ran ≡ Done t → TakesAnswer ran r answer A → ⊥
ended_or_takes (Done u) answer r A t e x = x
ended_or_takes (Wants slot calls call) answer r A t e x = cc

-- runs one behind another have one end
pub one_through : (run : List Response → Ran) (answer : ℕ → CallMade → Response) (given rs qs : List Response) (t u : Trace) → RunsThrough run answer given rs t → RunsThrough run answer given qs u → t ≡ u
one_through run answer given [] [] t u x y = done_same t u (sym x ∙ y)
  where
    done_same : (t u : Trace) → Done t ≡ Done u → t ≡ u
    done_same t u e = cc
one_through run answer given [] (q ∷ qs) t u x y = absurd (ended_or_takes (run given) answer q (RunsThrough run answer (given ++ q ∷ []) qs u) t x y)
one_through run answer given (r ∷ rs) [] t u x y = absurd (ended_or_takes (run given) answer r (RunsThrough run answer (given ++ r ∷ []) rs t) u y x)
one_through run answer given (r ∷ rs) (q ∷ qs) t u x y =
    let both = takes_both (run given) answer r q (RunsThrough run answer (given ++ r ∷ []) rs t) (RunsThrough run answer (given ++ q ∷ []) qs u) x y in
    let R : Response → Type 0 = λ k. RunsThrough run answer (given ++ k ∷ []) rs t in
    one_through run answer (given ++ q ∷ []) rs qs t u (subst R both.0 both.1) both.2

one_again : (b : Bool) (s : Kept) (rows : List Cell) (e : Entry) (t u : Trace) → RunsAgain b s rows e t → RunsAgain b s rows e u → t ≡ u
one_again true s rows e t u x y =
    one_through (λ xs. run_of (setting_of s.setting e) e.request e.inputs xs rows) (answer_at (answers s) (calls_of_made e.made) e.slots) [] x.0 y.0 t u x.1 y.1
one_again false s rows e t u x y = x ∙ sym y

one_record : (s : Kept) (rows : List Cell) (e : Entry) (m n : Made) → IsRecord s rows e m → IsRecord s rows e n → m ≡ n
one_record s rows e m n x y =
    ap (λ (b : Bool). record { alive = b; version = m.version; request = m.request; trace = m.trace }) (x.alive ∙ sym y.alive)
    ∙ ap (λ (v : ℕ). record { alive = n.alive; version = v; request = m.request; trace = m.trace }) (x.version ∙ sym y.version)
    ∙ ap (λ (q : Request). record { alive = n.alive; version = n.version; request = q; trace = m.trace }) (x.request ∙ sym y.request)
    ∙ ap (λ (t : Trace). record { alive = n.alive; version = n.version; request = n.request; trace = t }) (one_again (is_alive e) s rows e m.trace n.trace x.ran y.ran)

step_by_goes : (s : Kept) (o : Option Stale) → StepsBy s o (step_by s o).answer (step_by s o).service
step_by_goes s None = (refl, refl)
step_by_goes s (Some x) = record {
  made = new_record s x.rows x.entry;
  is = record_is s x.rows x.entry;
  alone = λ other is. one_record s x.rows x.entry other (new_record s x.rows x.entry) is (record_is s x.rows x.entry);
  leaves = refl;
}

-- a step runs the first stale entry through
pub step_runs_through : (s : Kept) → IsStep s (step_event s).answer (step_event s).service
step_runs_through s = step_by_goes s (stale_in (answers s) (base s) (unfolded s))

-- ---- what is promised of each call

pub does_arrive : (s s' : Kept) (o : Origin) (q : Request) (i : Inputs) (result : Result Arrived ArriveRefused) → Fits s → Does arrive_memory (arrive_event s o q i) s result s'
    → IfOk result (λ arrived. Begins s (new_flight s o q i) arrived s')
does_arrive s s' o q i (Err why) fits does = tt
does_arrive s s' o q i (Ok arrived) fits does =
    let L : After (Result Arrived ArriveRefused) → Type 0 = λ x. Leaves s (new_flight s o q i) x.service x.answer in
    subst L (sym does) (arrive_goes s o q i fits)

pub does_answered : (s s' : Kept) (id : ℕ) (a : AnswerMessage) (result : Result Arrived CallRefused) → Fits s → Does call_memory (call_answered_event s id a) s result s'
    → IfOk result (λ arrived. IsSomeAnd (flight_of id s) (λ f. GoesOnTo (noted (live_answer_rows s a) s) f (after s' arrived)))
does_answered s s' id a (Err why) fits does = tt
does_answered s s' id a (Ok arrived) fits does =
    let L : After (Result Arrived CallRefused) → Type 0 = λ x. LeavesOf (noted (live_answer_rows s a) s) (flight_of id s) x.service x.answer in
    subst L (sym does) (call_answered_goes s id a fits)

pub does_failed : (s s' : Kept) (id number : ℕ) (why : Why) (result : Result Arrived CallRefused) → Fits s → Does call_memory (call_failed_event s id number why) s result s'
    → IfOk result (λ arrived. IsSomeAnd (flight_of id s) (λ f. GoesOnTo (told number why s) f (after s' arrived)))
does_failed s s' id number why (Err reason) fits does = tt
does_failed s s' id number why (Ok arrived) fits does =
    let L : After (Result Arrived CallRefused) → Type 0 = λ x. LeavesOf (told number why s) (flight_of id s) x.service x.answer in
    subst L (sym does) (call_failed_goes s id number why fits)
