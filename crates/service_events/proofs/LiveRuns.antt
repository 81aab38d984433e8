-- The events of live requests keep that records are what runs gave: a flight is committed where its run ended, and it ends.
use Rattle.std.proofs.Common.{◌≡◌, ℕ, zero, suc, ◌+◌, ◌<◌, ◌≤◌, Bool, true, false, cond, List, [], ◌∷◌, ◌++◌, map, length, take, set, slice_get, Option, Some, None, Result, Err, nat_eq, nat_le, refl, sym, ap, ◌∙◌, subst, arith, length-set}
use Rattle.std.proofs.lemmas.Bool.{cond_both}
use Rattle.std.proofs.lemmas.List.{length-map, map-append, take-map, take-set}
use Rattle.lang_core.specs.Traces.{dead_trace}
use Rattle.lang_core.specs.declared.ids.Origin.{Origin}
use Rattle.lang_core.specs.declared.ids.Origin.TheVariants.{Call}
use Rattle.lang_core.specs.declared.inputs.Inputs.{Inputs}
use Rattle.lang_core.specs.declared.request.Request.{Request}
use Rattle.lang_core.specs.declared.request.Response.{Response}
use Rattle.lang_core.specs.declared.trace.CallMade.{CallMade}
use Rattle.lang_core.specs.declared.trace.Trace.{Trace}
use Rattle.lang_programs.specs.Settings.{with_program}
use Rattle.handler_run.specs.Handlers.{run_of}
use Rattle.handler_run.specs.declared.state.Ran.{Ran}
use Rattle.handler_run.specs.declared.state.Ran.TheVariants.{Done, Wants}
use Rattle.request_log.specs.Entries.{find_call}
use Rattle.request_log.specs.Records.{Record, record_of}
use Rattle.request_log.specs.declared.entry.Entry.{Entry}
use Rattle.local_repair.specs.Current.{AllRuns, rows_after}
use Rattle.local_repair.specs.Steps.{answer_or_tentative}
use Rattle.repair_messages.specs.declared.messages.AnswerMessage.{AnswerMessage}
use Rattle.journal_rows.specs.Words.{last_taken}
use Rattle.journal_rows.specs.declared.callee.TookRow.{TookRow}
use Rattle.journal_rows.specs.declared.caller.AckHow.TheVariants.{WithAnswer}
use Rattle.journal_rows.specs.declared.row.Row.{Row}
use Rattle.journal_rows.specs.declared.row.Row.TheVariants.{SawAck}
use Rattle.call_registers.specs.Registers.{next_number, register}
use Rattle.call_registers.specs.declared.register.Register.{Register}
use Rattle.call_registers.specs.declared.register.Why.{Why}
use Rattle.call_registers.specs.declared.register.Why.TheVariants.{Changes}
use Rattle.flights.specs.Moves.{calls_in, first_other, by_run, change_or, next_move}
use Rattle.flights.specs.declared.flight.Flight.{Flight}
use Rattle.flights.specs.declared.flight.Move.{Move}
use Rattle.flights.specs.declared.flight.Move.TheVariants.{Commit, Name, Change}
use Rattle.service_events.specs.Arriving.{accepted, new_flight, admitted, known_by, arrives_or_known, by_version, unless_gone, is_for, live_answer_rows, is_new_to, seen_live, answered_flight, told, failed_flight, abandoned}
use Rattle.service_events.specs.Calls.{noted, named, after_rows}
use Rattle.service_events.specs.Fits.{Fits}
use Rattle.service_events.specs.Flying.{flight_run, awaited, live_version, committed_entry, committed, with_slot, with_change, change_rows, waits, call_or_none, named_unsent, changed_unsent, completing, completed, changed, moved, goes_on}
use Rattle.service_events.specs.State.{Kept, After, after, answers, or_else, is_crowded, is_heavy, flight_of, base, unfolded}
use Rattle.service_events.specs.declared.answers.Arrived.{Arrived}
use Rattle.service_events.specs.declared.refusals.ArriveRefused.{ArriveRefused}
use Rattle.service_events.specs.declared.refusals.CallRefused.{CallRefused}
use Rattle.service_events.proofs.AloftLemmas.{IsAloft, Became, AnyNumber, IsNot, named_became, changed_became, untold_became, aloft_named, aloft_changed, acked_aloft, answered_aloft, told_aloft, aloft_of}
use Rattle.service_events.proofs.GrowthLemmas.{IsGrowing, growing, first_is, Follows, follows_none, follows_name, follows_change, few_calls}
use Rattle.service_events.proofs.OwnLemmas.{before_same, all_same}
use Rattle.service_events.proofs.RepairRuns.{LeavesRuns}
use Rattle.service_events.proofs.RunLemmas.{record_is_run}
use Rattle.service_events.proofs.HorizonLemmas.{runs_push}

-- the records behind the horizon, which stands within the log, are what runs gave
abbrev pub RanBehind : Kept → Type 0
RanBehind s = (s.horizon ≤ length s.entries) × AllRuns s.setting (unfolded s)

-- a flight's runs under its program, by the answers
abbrev pub runs_of : Kept → Flight → List Response → Ran
runs_of s f xs = run_of (with_program f.program.program s.setting) f.request f.inputs xs (rows_after (base s) (unfolded s))

-- the answers that its calls consume
abbrev pub answers_given : Kept → Flight → List Response
answers_given s f = map (answers s) f.numbers

committed_runs : (s : Kept) (f : Flight) (t : Trace) → flight_run s f ≡ Done t → RanBehind s → LeavesRuns (committed s f t)
committed_runs s f t done h =
    runs_push s (committed_entry s f t) h.0 (record_is_run (with_program f.program.program s.setting) f.request f.inputs (answers_given s f) (rows_after (base s) (unfolded s)) t (live_version f.origin) done) h.1

-- ---- what a move says of the run

done_if : (o : Option ℕ) → change_or o Name ≡ Commit → ⊥
done_if None e = cc
done_if (Some k) e = cc

named_if : (o : Option ℕ) → change_or o Commit ≡ Name → ⊥
named_if None e = cc
named_if (Some k) e = cc

none_if : (o : Option ℕ) → change_or o Name ≡ Name → o ≡ None
none_if None e = refl
none_if (Some k) e = cc

some_if : (o : Option ℕ) (ran : Ran) (slot : ℕ) → change_or o (by_run ran) ≡ Change slot → o ≡ Some slot
some_if None (Done t) slot e = cc
some_if None (Wants k cs c) slot e = cc
some_if (Some k) ran slot e = (let is : k ≡ slot = cc in ap Some is)

got_within : {X : Type 0} (xs : List X) (k : ℕ) → k < length xs → slice_get xs k ≡ None → ⊥
got_within [] k l e = absurd (omega (arith, l))
got_within (x ∷ xs) zero l e = cc
got_within (x ∷ xs) (suc k) l e = got_within xs k (omega (arith, l)) e

call_there : (P : After Arrived → Type 0) (o : Option CallMade) (go : CallMade → After Arrived) (never : After Arrived) → (o ≡ None → ⊥) → ((c : CallMade) → o ≡ Some c → P (go c))
    → P (call_or_none o go never)
call_there P None go never there each = absurd (there refl)
call_there P (Some c) go never there each = each c refl

-- ---- the flight after a call was named or changed

module _ (s : Kept) (f : Flight) (call : CallMade) (a : IsAloft s.registers f.numbers f.calls) where
  named_unsent_became : Became s.registers (named_unsent s call).registers 1 AnyNumber
  named_unsent_became = untold_became (next_number s.registers) Changes s.registers (after_rows (length s.journal) s.registers (named (next_number s.registers) call ∷ [])) AnyNumber
      (named_became (length s.journal) s.registers (next_number s.registers) call refl a.numbered)

  pub named_aloft : IsAloft (named_unsent s call).registers (with_slot (next_number s.registers) call f).numbers (with_slot (next_number s.registers) call f).calls
  named_aloft = aloft_named s.registers (named_unsent s call).registers f.numbers f.calls call AnyNumber named_unsent_became a

  named_answers : (m : ℕ) → answers (named_unsent s call) m ≡ answers s m
  named_answers m = ap answer_or_tentative (named_unsent_became.gives m tt)

  pub named_given : answers_given (named_unsent s call) (with_slot (next_number s.registers) call f) ≡ answers_given s f ++ answers (named_unsent s call) (next_number s.registers) ∷ []
  named_given =
      map-append (answers (named_unsent s call)) f.numbers (next_number s.registers ∷ [])
      ∙ ap (λ xs. xs ++ answers (named_unsent s call) (next_number s.registers) ∷ []) (all_same (answers s) (answers (named_unsent s call)) f.numbers named_answers)

module _ (s : Kept) (f : Flight) (slot : ℕ) (call : CallMade) (a : IsAloft s.registers f.numbers f.calls) where
  changed_unsent_became : Became s.registers (changed_unsent s f slot call).registers 1 (IsNot (slice_get f.numbers slot))
  changed_unsent_became = untold_became (next_number s.registers) Changes s.registers (after_rows (length s.journal) s.registers (change_rows s f slot call)) (IsNot (slice_get f.numbers slot))
      (changed_became (length s.journal) s (slice_get f.numbers slot) (slice_get f.calls slot) call a.numbered)

  pub changed_aloft : IsAloft (changed_unsent s f slot call).registers (with_change slot (next_number s.registers) call f).numbers (with_change slot (next_number s.registers) call f).calls
  changed_aloft = aloft_changed s.registers (changed_unsent s f slot call).registers f.numbers f.calls slot call (IsNot (slice_get f.numbers slot)) changed_unsent_became a

  pub changed_many : length (answers_given (changed_unsent s f slot call) (with_change slot (next_number s.registers) call f)) ≡ length (answers_given s f)
  changed_many =
      length-map (set f.numbers slot (next_number s.registers)) (answers (changed_unsent s f slot call)) ∙ length-set f.numbers slot (next_number s.registers) ∙ sym (length-map f.numbers (answers s))

  before_by : (o : Option ℕ) → slice_get f.numbers slot ≡ o → ((m : ℕ) → IsNot o m → answers (changed_unsent s f slot call) m ≡ answers s m)
      → map (answers (changed_unsent s f slot call)) (take slot f.numbers) ≡ map (answers s) (take slot f.numbers)
  before_by None is same = all_same (answers s) (answers (changed_unsent s f slot call)) (take slot f.numbers) (λ m. same m tt)
  before_by (Some n) is same = before_same (answers s) (answers (changed_unsent s f slot call)) f.numbers slot n is a.apart same

  pub changed_given : take slot (answers_given (changed_unsent s f slot call) (with_change slot (next_number s.registers) call f)) ≡ take slot (answers_given s f)
  changed_given =
      take-map (answers (changed_unsent s f slot call)) slot (set f.numbers slot (next_number s.registers))
      ∙ ap (map (answers (changed_unsent s f slot call))) (take-set f.numbers slot (next_number s.registers))
      ∙ before_by (slice_get f.numbers slot) refl (λ m other. ap answer_or_tentative (changed_unsent_became.gives m other)) ∙ sym (take-map (answers s) slot f.numbers)

-- ---- it is completed

-- what is known of a flight that is to be completed
pub record Completes (s : Kept) (f : Flight) (k : ℕ) : Type 0 where
  pub aloft : IsAloft s.registers f.numbers f.calls
  pub follows : Follows (runs_of s f) k (answers_given s f) f.calls
  pub runs : RanBehind s

pub grows : (s : Kept) (f : Flight) → IsGrowing (runs_of s f)
grows s f = growing (with_program f.program.program s.setting) f.request f.inputs (rows_after (base s) (unfolded s))

pub name_completes : (s : Kept) (f : Flight) (k : ℕ) (slot : ℕ) (made : List CallMade) (call : CallMade) → flight_run s f ≡ Wants slot made call
    → first_other f.calls (calls_in (flight_run s f)) ≡ None → Completes s f k → Completes (named_unsent s call) (with_slot (next_number s.registers) call f) (k + 1)
name_completes s f k slot made call is none c = record {
  aloft = named_aloft s f call c.aloft;
  follows = subst (λ xs. Follows (runs_of s f) (k + 1) xs (f.calls ++ call ∷ [])) (sym (named_given s f call c.aloft))
      (follows_name (runs_of s f) (grows s f) k (answers_given s f) f.calls slot made call (answers (named_unsent s call) (next_number s.registers)) is none c.follows);
  runs = c.runs;
}

pub change_completes : (s : Kept) (f : Flight) (k : ℕ) (slot : ℕ) (call : CallMade) → first_other f.calls (calls_in (flight_run s f)) ≡ Some slot → slice_get (calls_in (flight_run s f)) slot ≡ Some call
    → Completes s f k → Completes (changed_unsent s f slot call) (with_change slot (next_number s.registers) call f) (k + 1)
change_completes s f k slot call first at c = record {
  aloft = changed_aloft s f slot call c.aloft;
  follows = follows_change (runs_of s f) (grows s f) k (answers_given s f) (answers_given (changed_unsent s f slot call) (with_change slot (next_number s.registers) call f)) f.calls slot call first at
      (changed_many s f slot call c.aloft) (changed_given s f slot call c.aloft) c.follows;
  runs = c.runs;
}

completing_runs : (s : Kept) (f : Flight) (k : ℕ) (ran : Ran) (move : Move) (again : Kept → Flight → After Arrived) → flight_run s f ≡ ran → next_move f ran ≡ move
    → ((s' : Kept) (f' : Flight) → Completes s' f' (k + 1) → LeavesRuns (again s' f')) → Completes s f k → LeavesRuns (completing s f ran move again)
completing_runs s f k (Done t) Commit again is goes keeps c = committed_runs s f t is c.runs
completing_runs s f k (Done t) Name again is goes keeps c = absurd (named_if (first_other f.calls t.calls) goes)
completing_runs s f k (Done t) (Change slot) again is goes keeps c =
    let first : first_other f.calls t.calls ≡ Some slot = some_if (first_other f.calls t.calls) (Done t) slot goes in
    let there = first_is f.calls t.calls slot first in
    let calls : t.calls ≡ calls_in (flight_run s f) = ap calls_in (sym is) in
    call_there LeavesRuns (slice_get t.calls slot) (λ call. again (changed_unsent s f slot call) (with_change slot (next_number s.registers) call f)) (committed s f t)
    (got_within t.calls slot there.new)
    (λ call at. keeps (changed_unsent s f slot call) (with_change slot (next_number s.registers) call f)
    (change_completes s f k slot call (ap (first_other f.calls) (sym calls) ∙ first) (ap (λ cs. slice_get cs slot) (sym calls) ∙ at) c))
completing_runs s f k (Wants place made want) Commit again is goes keeps c = absurd (done_if (first_other f.calls (made ++ want ∷ [])) goes)
completing_runs s f k (Wants place made want) Name again is goes keeps c =
    keeps (named_unsent s want) (with_slot (next_number s.registers) want f)
    (name_completes s f k place made want is (ap (λ r. first_other f.calls (calls_in r)) is ∙ none_if (first_other f.calls (made ++ want ∷ [])) goes) c)
completing_runs s f k (Wants place made want) (Change slot) again is goes keeps c =
    let cs = made ++ want ∷ [] in
    let first : first_other f.calls (made ++ want ∷ []) ≡ Some slot = some_if (first_other f.calls (made ++ want ∷ [])) (Wants place made want) slot goes in
    let there = first_is f.calls (made ++ want ∷ []) slot first in
    let calls : made ++ want ∷ [] ≡ calls_in (flight_run s f) = ap calls_in (sym is) in
    call_there LeavesRuns (slice_get (made ++ want ∷ []) slot) (λ call. again (changed_unsent s f slot call) (with_change slot (next_number s.registers) call f)) (committed s f dead_trace)
    (got_within (made ++ want ∷ []) slot there.new)
    (λ call at. keeps (changed_unsent s f slot call) (with_change slot (next_number s.registers) call f)
    (change_completes s f k slot call (ap (first_other f.calls) (sym calls) ∙ first) (ap (λ xs. slice_get xs slot) (sym calls) ∙ at) c))

-- a flight of which that much is known is completed in so many runs
completed_runs : (runs : ℕ) (s : Kept) (f : Flight) (k : ℕ) → 17 ≤ k + runs → Completes s f k → LeavesRuns (completed runs s f)
completed_runs zero s f k enough c =
    (let there = c.follows.there in let few = few_calls (runs_of s f) (grows s f) (answers_given s f) in absurd (omega (arith, enough, there, few)))
completed_runs (suc runs) s f k enough c =
    completing_runs s f k (flight_run s f) (next_move f (flight_run s f)) (completed runs) refl refl
    (λ s' f' c'. completed_runs runs s' f' (k + 1) (omega (arith, enough)) c') c

-- ---- a flight goes on

changed_runs : (s : Kept) (f : Flight) (slot : ℕ) (call : CallMade) → IsAloft s.registers f.numbers f.calls → RanBehind s → LeavesRuns (changed s f slot call)
changed_runs s f slot call a h =
    let s' = changed_unsent s f slot call in
    let f' = with_change slot (next_number s.registers) call f in
    let aloft = changed_aloft s f slot call a in
    cond_both (nat_le 3 f.changes) (completed 17 s' f') (waits (noted (change_rows s f slot call) s) f' (next_number s.registers) call) LeavesRuns
    (λ _. completed_runs 17 s' f' 0 (omega arith)
    (record { aloft = aloft; follows = follows_none (runs_of s' f') (answers_given s' f') f'.calls (length-map f'.numbers (answers s') ∙ aloft.many); runs = h }))
    (λ _. h.1)

moved_runs : (s : Kept) (f : Flight) (ran : Ran) (move : Move) → flight_run s f ≡ ran → next_move f ran ≡ move → IsAloft s.registers f.numbers f.calls → RanBehind s
    → LeavesRuns (moved s f ran move)
moved_runs s f (Done t) Commit is goes a h = committed_runs s f t is h
moved_runs s f (Done t) Name is goes a h = absurd (named_if (first_other f.calls t.calls) goes)
moved_runs s f (Done t) (Change slot) is goes a h =
    let there = first_is f.calls t.calls slot (some_if (first_other f.calls t.calls) (Done t) slot goes) in
    call_there LeavesRuns (slice_get t.calls slot) (λ call. changed s f slot call) (committed s f t) (got_within t.calls slot there.new) (λ call at. changed_runs s f slot call a h)
moved_runs s f (Wants place made want) Commit is goes a h = absurd (done_if (first_other f.calls (made ++ want ∷ [])) goes)
moved_runs s f (Wants place made want) Name is goes a h = h.1
moved_runs s f (Wants place made want) (Change slot) is goes a h =
    let there = first_is f.calls (made ++ want ∷ []) slot (some_if (first_other f.calls (made ++ want ∷ [])) (Wants place made want) slot goes) in
    call_there LeavesRuns (slice_get (made ++ want ∷ []) slot) (λ call. changed s f slot call) (committed s f dead_trace) (got_within (made ++ want ∷ []) slot there.new)
    (λ call at. changed_runs s f slot call a h)

goes_on_runs : (s : Kept) (f : Flight) → IsAloft s.registers f.numbers f.calls → RanBehind s → LeavesRuns (goes_on s f)
unfolding goes_on
goes_on_runs s f a h = moved_runs s f (flight_run s f) (next_move f (flight_run s f)) refl refl a h

-- ---- the events

module _ (s : Kept) (h : Fits s) where
  pub admitted_runs : (o : Origin) (q : Request) (i : Inputs) (full : Option ℕ) → LeavesRuns (admitted s o q i full)
  admitted_runs o q i (Some n) = h.runs
  admitted_runs o q i None = goes_on_runs s (new_flight s o q i) (record { numbered = h.sent.numbered; apart = tt; within = tt; many = refl }) (h.horizon.within, h.runs)

  known_runs : (c : List ℕ) (n : ℕ) (e : Entry) (made : Option Record) → LeavesRuns (known_by s c n e made)
  known_runs c n e None = h.runs
  known_runs c n e (Some m) = h.runs

  or_known_runs : (c : List ℕ) (n : ℕ) (q : Request) (i : Inputs) (o : Option Entry) → LeavesRuns (arrives_or_known s c n q i o)
  or_known_runs c n q i None = admitted_runs (Call c n) q i (or_else (is_crowded s) (is_heavy s))
  or_known_runs c n q i (Some e) = known_runs c n e (record_of e)

  by_version_runs : (version : ℕ) (desired : Option Request) (known : After (Result Arrived ArriveRefused)) → LeavesRuns known → LeavesRuns (by_version s version desired known)
  by_version_runs version None known keeps = h.runs
  by_version_runs version (Some q) known keeps = keeps

  unless_gone_runs : (last : Option TookRow) (known : After (Result Arrived ArriveRefused)) → LeavesRuns known → LeavesRuns (unless_gone s last known)
  unless_gone_runs None known keeps = keeps
  unless_gone_runs (Some t) known keeps = by_version_runs t.version t.desired known keeps

  pub call_runs : (c : List ℕ) (n : ℕ) (q : Request) (i : Inputs)
      → LeavesRuns (unless_gone s (last_taken c n s.journal) (arrives_or_known s c n q i (find_call (Call c n) s.entries)))
  call_runs c n q i =
      let entry = find_call (Call c n) s.entries in
      unless_gone_runs (last_taken c n s.journal) (arrives_or_known s c n q i entry) (or_known_runs c n q i entry)

  heard_aloft : (a : AnswerMessage) (new : Bool) (rs : List Register) (at : ℕ) (ns : List ℕ) (cs : List CallMade) → IsAloft rs ns cs → IsAloft (after_rows at rs (cond new (seen_live a ∷ []) [])) ns cs
  heard_aloft a true rs at ns cs l = answered_aloft a.number (record { answer_version = a.answer_version; version = a.version; response = a.response }) rs ns cs l
  heard_aloft a false rs at ns cs l = l

  pub answered_runs : (id : ℕ) (a : AnswerMessage) (o : Option Flight) → flight_of id s ≡ o → LeavesRuns (answered_flight s id a o)
  answered_runs id a None is = h.runs
  answered_runs id a (Some f) is =
      cond_both (is_for s a f) (accepted (goes_on (noted (live_answer_rows s a) s) f)) (after s (Err (CallRefused.NoFlight id))) LeavesRuns
      (λ _. goes_on_runs (noted (live_answer_rows s a) s) f
      (heard_aloft a (is_new_to a (register a.number s.registers)) (after_rows (length s.journal) s.registers (saw a ∷ [])) (length s.journal + 1) f.numbers f.calls
      (acked_aloft a.number a.version s.registers f.numbers f.calls (aloft_of s id f h is))) (h.horizon.within, h.runs))
      (λ _. h.runs)
    where
      saw : AnswerMessage → Row
      saw a = SawAck (record { number = a.number; version = a.version; how = WithAnswer a.answer_version })

  pub failed_runs : (id number : ℕ) (why : Why) (o : Option Flight) → flight_of id s ≡ o → LeavesRuns (failed_flight s id number why o)
  failed_runs id number why None is = h.runs
  failed_runs id number why (Some f) is =
      cond_both (nat_eq (awaited f) number) (accepted (goes_on (told number why s) f)) (after s (Err (CallRefused.NoFlight id))) LeavesRuns
      (λ _. goes_on_runs (told number why s) f (told_aloft number why s.registers f.numbers f.calls (aloft_of s id f h is)) (h.horizon.within, h.runs)) (λ _. h.runs)

  pub abandoned_runs : (o : Option Flight) → LeavesRuns (abandoned s o)
  abandoned_runs None = h.runs
  abandoned_runs (Some f) = h.runs
