-- The events of live requests keep how entries and replies follow from the journal.
use Rattle.std.proofs.Common.{◌≡◌, ℕ, zero, suc, Bool, true, false, cond, List, [], ◌∷◌, ◌++◌, Option, Some, None, IsSome, Result, Err, is_some, nat_le, nat_eq, slice_get, refl, ap, ◌∙◌}
use Rattle.std.specs.List.{AllByRecursion as Each}
use Rattle.std.proofs.lemmas.Bool.{cond_both}
use Rattle.lang_core.specs.declared.ids.Origin.{Origin}
use Rattle.lang_core.specs.declared.ids.Origin.TheVariants.{Call}
use Rattle.lang_core.specs.declared.inputs.Inputs.{Inputs}
use Rattle.lang_core.specs.declared.request.Request.{Request}
use Rattle.lang_core.specs.declared.trace.CallMade.{CallMade}
use Rattle.lang_core.specs.Traces.{dead_trace}
use Rattle.handler_run.specs.declared.state.Ran.{Ran}
use Rattle.request_log.specs.Entries.{find_call}
use Rattle.request_log.specs.Records.{Record, record_of}
use Rattle.request_log.specs.declared.entry.Entry.{Entry}
use Rattle.local_repair.specs.Alone.{trace_or_dead}
use Rattle.repair_messages.specs.declared.messages.AnswerMessage.{AnswerMessage}
use Rattle.journal_rows.specs.Words.{last_taken, last_taken_of}
use Rattle.journal_rows.specs.declared.callee.TookRow.{TookRow}
use Rattle.journal_rows.specs.declared.row.Row.{Row}
use Rattle.call_registers.specs.Registers.{next_number, register}
use Rattle.call_registers.specs.declared.register.Why.{Why}
use Rattle.call_registers.specs.declared.reply.Reply.{Reply}
use Rattle.flights.specs.Moves.{calls_in, next_move}
use Rattle.flights.specs.declared.flight.Flight.{Flight}
use Rattle.flights.specs.declared.flight.Move.{Move}
use Rattle.flights.specs.declared.flight.Move.TheVariants.{Commit, Name, Change}
use Rattle.service_events.specs.Arriving.{accepted, new_flight, admitted, arrives, known_by, arrives_or_known, by_version, unless_gone, is_for, live_answer_rows, is_new_to, seen_live, answered_flight, told, failed_flight, abandoned}
use Rattle.service_events.specs.Calls.{noted, named, all_deleted}
use Rattle.service_events.specs.Fits.{FitsFlights}
use Rattle.service_events.specs.Flying.{flight_run, awaited, committed, with_slot, with_change, deletion, change_rows, waits, call_or_none, wanted_of, named_unsent, changed_unsent, completing, completed, changed, moved, goes_on}
use Rattle.service_events.specs.State.{Kept, After, after, or_else, is_crowded, is_heavy, has_flight, flight_of}
use Rattle.service_events.specs.declared.answers.Arrived.{Arrived}
use Rattle.service_events.specs.declared.refusals.ArriveRefused.{ArriveRefused}
use Rattle.service_events.specs.declared.refusals.CallRefused.{CallRefused}
use Rattle.service_events.proofs.CallerLaws.{IsCallerRow, each_append, callers_logged, callers_taken}
use Rattle.service_events.proofs.CommitLaw.{committed_logged, deleted_callers}
use Rattle.service_events.proofs.JournalLemmas.{taken_with}
use Rattle.service_events.proofs.PartLemmas.{IsLogged}
use Rattle.service_events.proofs.SearchLemmas.{found_all}

-- what an event leaves follows from its journal
abbrev pub LeavesLogged : {A : Type 0} → After A → Type 0
LeavesLogged a = IsLogged (a.service).journal (a.service).entries (a.service).replies

-- a service whose entries follow from its journal, which has not taken this origin
pub record CanFly (journal : List Row) (log : List Entry) (kept : List Reply) (o : Origin) : Type 0 where
  pub logged : IsLogged journal log kept
  pub untaken : last_taken_of o journal ≡ None

fly_noted : (j rows : List Row) (log : List Entry) (kept : List Reply) (o : Origin) → Each IsCallerRow rows → CanFly j log kept o → CanFly (j ++ rows) log kept o
fly_noted j rows log kept o callers c =
    record { logged = callers_logged j rows log kept callers c.logged; untaken = callers_taken o j rows callers ∙ c.untaken }

deletion_callers : (s : Kept) (n : Option ℕ) (c : Option CallMade) → Each IsCallerRow (deletion s n c)
deletion_callers s (Some n) (Some c) = (tt, tt)
deletion_callers s (Some n) None = tt
deletion_callers s None c = tt

pub change_callers : (s : Kept) (f : Flight) (slot : ℕ) (call : CallMade) → Each IsCallerRow (change_rows s f slot call)
change_callers s f slot call =
    each_append IsCallerRow (deletion s (slice_get f.numbers slot) (slice_get f.calls slot)) (named (next_number s.registers) call ∷ [])
    (deletion_callers s (slice_get f.numbers slot) (slice_get f.calls slot)) (tt, tt)

pub call_keeps : (P : After Arrived → Type 0) (o : Option CallMade) (go : CallMade → After Arrived) (never : After Arrived) → ((c : CallMade) → P (go c)) → P never
    → P (call_or_none o go never)
call_keeps P None go never each last = last
call_keeps P (Some c) go never each last = each c

-- ---- a flight goes on

completing_logged : (s : Kept) (f : Flight) (ran : Ran) (move : Move) (again : Kept → Flight → After Arrived)
    → ((s' : Kept) (f' : Flight) → CanFly s'.journal s'.entries s'.replies f'.origin → LeavesLogged (again s' f'))
    → CanFly s.journal s.entries s.replies f.origin → LeavesLogged (completing s f ran move again)
completing_logged s f ran Commit again keeps c = committed_logged s f (trace_or_dead ran) c.logged c.untaken
completing_logged s f ran Name again keeps c =
    call_keeps LeavesLogged (wanted_of ran) (λ call. again (named_unsent s call) (with_slot (next_number s.registers) call f)) (committed s f (trace_or_dead ran))
    (λ call. keeps (named_unsent s call) (with_slot (next_number s.registers) call f)
    (fly_noted s.journal (named (next_number s.registers) call ∷ []) s.entries s.replies f.origin (tt, tt) c))
    (committed_logged s f (trace_or_dead ran) c.logged c.untaken)
completing_logged s f ran (Change slot) again keeps c =
    call_keeps LeavesLogged (slice_get (calls_in ran) slot) (λ call. again (changed_unsent s f slot call) (with_change slot (next_number s.registers) call f)) (committed s f (trace_or_dead ran))
    (λ call. keeps (changed_unsent s f slot call) (with_change slot (next_number s.registers) call f)
    (fly_noted s.journal (change_rows s f slot call) s.entries s.replies f.origin (change_callers s f slot call) c))
    (committed_logged s f (trace_or_dead ran) c.logged c.untaken)

completed_logged : (runs : ℕ) (s : Kept) (f : Flight) → CanFly s.journal s.entries s.replies f.origin → LeavesLogged (completed runs s f)
completed_logged zero s f c = committed_logged s f dead_trace c.logged c.untaken
completed_logged (suc runs) s f c =
    completing_logged s f (flight_run s f) (next_move f (flight_run s f)) (completed runs) (λ s' f' c'. completed_logged runs s' f' c') c

changed_logged : (s : Kept) (f : Flight) (slot : ℕ) (call : CallMade) → CanFly s.journal s.entries s.replies f.origin → LeavesLogged (changed s f slot call)
changed_logged s f slot call c =
    let fly = fly_noted s.journal (change_rows s f slot call) s.entries s.replies f.origin (change_callers s f slot call) c in
    cond_both (nat_le 3 f.changes) (completed 17 (changed_unsent s f slot call) (with_change slot (next_number s.registers) call f))
    (waits (noted (change_rows s f slot call) s) (with_change slot (next_number s.registers) call f) (next_number s.registers) call) LeavesLogged
    (λ _. completed_logged 17 (changed_unsent s f slot call) (with_change slot (next_number s.registers) call f) fly) (λ _. fly.logged)

moved_logged : (s : Kept) (f : Flight) (ran : Ran) (move : Move) → CanFly s.journal s.entries s.replies f.origin → LeavesLogged (moved s f ran move)
moved_logged s f ran Commit c = committed_logged s f (trace_or_dead ran) c.logged c.untaken
moved_logged s f ran Name c =
    call_keeps LeavesLogged (wanted_of ran)
    (λ call. waits (noted (named (next_number s.registers) call ∷ []) s) (with_slot (next_number s.registers) call f) (next_number s.registers) call) (committed s f (trace_or_dead ran))
    (λ call. callers_logged s.journal (named (next_number s.registers) call ∷ []) s.entries s.replies (tt, tt) c.logged)
    (committed_logged s f (trace_or_dead ran) c.logged c.untaken)
moved_logged s f ran (Change slot) c =
    call_keeps LeavesLogged (slice_get (calls_in ran) slot) (λ call. changed s f slot call) (committed s f (trace_or_dead ran))
    (λ call. changed_logged s f slot call c) (committed_logged s f (trace_or_dead ran) c.logged c.untaken)

goes_on_logged : (s : Kept) (f : Flight) → CanFly s.journal s.entries s.replies f.origin → LeavesLogged (goes_on s f)
unfolding goes_on
goes_on_logged s f c = moved_logged s f (flight_run s f) (next_move f (flight_run s f)) c

-- ---- an arrival

module _ (s : Kept) (h : IsLogged s.journal s.entries s.replies) where
  admitted_logged : (o : Origin) (q : Request) (i : Inputs) (full : Option ℕ) → last_taken_of o s.journal ≡ None → LeavesLogged (admitted s o q i full)
  admitted_logged o q i (Some n) none = h
  admitted_logged o q i None none = goes_on_logged s (new_flight s o q i) (record { logged = h; untaken = none })

  pub arrives_logged : (o : Origin) (q : Request) (i : Inputs) → last_taken_of o s.journal ≡ None → LeavesLogged (arrives s o q i)
  arrives_logged o q i none = admitted_logged o q i (or_else (is_crowded s) (is_heavy s)) none

  known_logged : (c : List ℕ) (n : ℕ) (e : Entry) (made : Option Record) → LeavesLogged (known_by s c n e made)
  known_logged c n e None = h
  known_logged c n e (Some m) = h

  or_known_logged : (c : List ℕ) (n : ℕ) (q : Request) (i : Inputs) (o : Option Entry) → (o ≡ None → last_taken c n s.journal ≡ None)
      → LeavesLogged (arrives_or_known s c n q i o)
  or_known_logged c n q i None none = arrives_logged (Call c n) q i (none refl)
  or_known_logged c n q i (Some e) none = known_logged c n e (record_of e)

  by_version_logged : (version : ℕ) (desired : Option Request) (known : After (Result Arrived ArriveRefused)) → (IsSome desired → LeavesLogged known)
      → LeavesLogged (by_version s version desired known)
  by_version_logged version None known keeps = h
  by_version_logged version (Some q) known keeps = keeps refl

  -- what was taken with a request last has an entry
  has_entry : (c : List ℕ) (n : ℕ) (t : TookRow) → last_taken c n s.journal ≡ Some t → IsSome t.desired → (o : Option Entry) → find_call (Call c n) s.entries ≡ o → o ≡ None → ⊥
  has_entry c n t last some o is none =
      let there : IsSome (find_call (Call c n) s.entries) = (h.asked.calls c n).1 (taken_with c n s.journal t last some) in
      let gone : is_some (find_call (Call c n) s.entries) ≡ false = ap is_some (is ∙ none) in
      cc

  pub unless_gone_logged : (c : List ℕ) (n : ℕ) (q : Request) (i : Inputs) (last : Option TookRow) → last_taken c n s.journal ≡ last
      → LeavesLogged (unless_gone s last (arrives_or_known s c n q i (find_call (Call c n) s.entries)))
  unless_gone_logged c n q i None is = or_known_logged c n q i (find_call (Call c n) s.entries) (λ _. is)
  unless_gone_logged c n q i (Some t) is =
      by_version_logged t.version t.desired (arrives_or_known s c n q i (find_call (Call c n) s.entries))
      (λ some. or_known_logged c n q i (find_call (Call c n) s.entries)
      (λ none. absurd (has_entry c n t is some (find_call (Call c n) s.entries) refl none)))

-- ---- what comes back of a call

pub heard_callers : (s : Kept) (a : AnswerMessage) (b : Bool) → Each IsCallerRow (cond b (seen_live a ∷ []) [])
heard_callers s a true = (tt, tt)
heard_callers s a false = tt

module _ (s : Kept) (h : IsLogged s.journal s.entries s.replies) (flights : FitsFlights s.journal s.flights) where
  free : (id : ℕ) (f : Flight) → flight_of id s ≡ Some f → last_taken_of f.origin s.journal ≡ None
  free id f found = found_all (λ (g : Flight). last_taken_of g.origin s.journal ≡ None) (has_flight id) s.flights f flights.untaken found

  pub answered_logged : (id : ℕ) (a : AnswerMessage) (o : Option Flight) → flight_of id s ≡ o → LeavesLogged (answered_flight s id a o)
  answered_logged id a None is = h
  answered_logged id a (Some f) is =
      cond_both (is_for s a f) (accepted (goes_on (noted (live_answer_rows s a) s) f)) (after s (Err (CallRefused.NoFlight id))) LeavesLogged
      (λ _. goes_on_logged (noted (live_answer_rows s a) s) f
      (fly_noted s.journal (live_answer_rows s a) s.entries s.replies f.origin (tt, heard_callers s a (is_new_to a (register a.number s.registers)))
      (record { logged = h; untaken = free id f is }))) (λ _. h)

  pub failed_logged : (id number : ℕ) (why : Why) (o : Option Flight) → flight_of id s ≡ o → LeavesLogged (failed_flight s id number why o)
  failed_logged id number why None is = h
  failed_logged id number why (Some f) is =
      cond_both (nat_eq (awaited f) number) (accepted (goes_on (told number why s) f)) (after s (Err (CallRefused.NoFlight id))) LeavesLogged
      (λ _. goes_on_logged (told number why s) f (record { logged = h; untaken = free id f is })) (λ _. h)

pub abandoned_logged : (s : Kept) → IsLogged s.journal s.entries s.replies → (o : Option Flight) → LeavesLogged (abandoned s o)
abandoned_logged s h None = h
abandoned_logged s h (Some f) =
    callers_logged s.journal (all_deleted s.registers f.numbers f.calls) s.entries s.replies (deleted_callers s.registers f.numbers f.calls) h
