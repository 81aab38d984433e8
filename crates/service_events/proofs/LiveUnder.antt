-- The events of live requests keep what follows from the journal of programs: a flight goes on under its own, and its entry has it.
use Rattle.std.proofs.Common.{◌≡◌, ℕ, zero, suc, ◌≤◌, List, [], ◌∷◌, ◌++◌, All, Option, Some, None, Result, Err, drop, length, nat_eq, nat_le, nat_lt, not, slice_get, refl, sym, ap, ◌∙◌, subst, append_assoc, eq-eqb}
use Rattle.std.specs.List.{AllByRecursion as Each}
use Rattle.std.proofs.lemmas.Bool.{cond_both}
use Rattle.std.proofs.lemmas.List.Elements.{All-cons, All-filter, All-head, All-push, All-tail}
use Rattle.lang_core.specs.Traces.{dead_trace}
use Rattle.lang_core.specs.declared.ids.Origin.{Origin}
use Rattle.lang_core.specs.declared.ids.Origin.TheVariants.{Outside, Call}
use Rattle.lang_core.specs.declared.inputs.Inputs.{Inputs}
use Rattle.lang_core.specs.declared.request.Request.{Request}
use Rattle.lang_core.specs.declared.trace.CallMade.{CallMade}
use Rattle.lang_core.specs.declared.trace.Trace.{Trace}
use Rattle.lang_tree.specs.declared.program.Route.{Route}
use Rattle.lang_programs.specs.Numbered.{Numbered}
use Rattle.lang_programs.specs.Under.{Under, under_of}
use Rattle.handler_run.specs.declared.state.Ran.{Ran}
use Rattle.request_log.specs.Entries.{find_call}
use Rattle.request_log.specs.Records.{Record, record_of}
use Rattle.request_log.specs.declared.entry.Entry.{Entry}
use Rattle.local_repair.specs.Alone.{trace_or_dead}
use Rattle.repair_messages.specs.declared.messages.AnswerMessage.{AnswerMessage}
use Rattle.journal_rows.specs.Programs.{program_now}
use Rattle.journal_rows.specs.Words.{asked, asked_step, last_taken}
use Rattle.journal_rows.specs.declared.callee.AskedRow.{AskedRow}
use Rattle.journal_rows.specs.declared.callee.TookRow.{TookRow}
use Rattle.journal_rows.specs.declared.row.Row.{Row}
use Rattle.journal_rows.specs.declared.row.Row.TheVariants.{Asked, Sent, SawAck, Noted, SawAnswer, Confirmed}
use Rattle.call_registers.specs.Registers.{next_number, register}
use Rattle.call_registers.specs.declared.register.Why.{Why}
use Rattle.flights.specs.Moves.{calls_in, next_move}
use Rattle.flights.specs.declared.flight.Flight.{Flight}
use Rattle.flights.specs.declared.flight.Move.{Move}
use Rattle.flights.specs.declared.flight.Move.TheVariants.{Commit, Name, Change}
use Rattle.service_events.specs.Arriving.{abandoned, accepted, admitted, answered_flight, arrives_or_known, by_version, failed_flight, is_for, is_new_to, known_by, live_answer_rows, new_flight, told, unless_gone}
use Rattle.service_events.specs.Calls.{all_deleted, named, noted}
use Rattle.service_events.specs.Fits.{Fits, FitsPrograms, IsInUse, IsThere, IsUnder, ProgramsFollow}
use Rattle.service_events.specs.Flying.{awaited, change_rows, changed, changed_unsent, committed, committed_entry, completed, completing, flight_run, goes_on, live_answer, moved, named_unsent, surplus_rows, took_rows, waits, wanted_of, with_change, with_slot}
use Rattle.service_events.specs.State.{Kept, After, after, flight_of, folded, has_flight, is_crowded, is_heavy, next_id, or_else, put_flight, unfolded, with_flight, without_flight}
use Rattle.service_events.specs.declared.answers.Arrived.{Arrived}
use Rattle.service_events.specs.declared.refusals.ArriveRefused.{ArriveRefused}
use Rattle.service_events.specs.declared.refusals.CallRefused.{CallRefused}
use Rattle.service_events.proofs.CallerLaws.{IsCallerRow, each_append, made_caller}
use Rattle.service_events.proofs.CommitLaw.{deleted_callers}
use Rattle.service_events.proofs.EntryRowLemmas.{word_same}
use Rattle.service_events.proofs.FreshLemmas.{unmade}
use Rattle.service_events.proofs.HorizonLemmas.{push_stays, push_unfolded}
use Rattle.service_events.proofs.LiveEntryLaws.{call_keeps, change_callers, heard_callers}
use Rattle.service_events.proofs.PartLemmas.{logged}
use Rattle.service_events.proofs.ProgramLemmas.{AsksUnder, IsUnasked, KeepsPlaces, all_none, asked_there, now_stays, number_stands, number_there, programs_more, programs_with, replaced_stays, use_more}
use Rattle.service_events.proofs.SearchLemmas.{found_all, some_and}

-- what an event leaves has programs that follow from its journal
abbrev pub LeavesUnder : {A : Type 0} → After A → Type 0
LeavesUnder a = FitsPrograms a.service

-- ---- rows on own calls

caller_asks : (j : List Row) (row : Row) → IsCallerRow row → AsksUnder j row
caller_asks j (Sent s) h = tt
caller_asks j (SawAck a) h = tt
caller_asks j (Noted t) h = tt
caller_asks j (SawAnswer a) h = tt
caller_asks j (Confirmed c) h = tt
caller_asks j row h = absurd h

pub callers_ask : (j rows : List Row) → Each IsCallerRow rows → Each (AsksUnder j) rows
callers_ask j [] h = tt
callers_ask j (row ∷ rows) h = (caller_asks j row h.0, callers_ask j rows h.1)

caller_unasked : (row : Row) → IsCallerRow row → IsUnasked row
caller_unasked (Sent s) h = tt
caller_unasked (SawAck a) h = tt
caller_unasked (Noted t) h = tt
caller_unasked (SawAnswer a) h = tt
caller_unasked (Confirmed c) h = tt
caller_unasked row h = absurd h

callers_unasked : (rows : List Row) → Each IsCallerRow rows → Each IsUnasked rows
callers_unasked [] h = tt
callers_unasked (row ∷ rows) h = (caller_unasked row h.0, callers_unasked rows h.1)

-- ---- the entry of a new number

-- one that is asked for in these rows, under a program that is in use, is under it behind them
pub new_under : (first : List Route) (j front back : List Row) (a : AskedRow) (n : Numbered) (e : Entry) → a.id ≡ e.id → a.program ≡ n.number → e.under ≡ under_of n
    → asked e.id j ≡ None → Each IsUnasked front → Each (AsksUnder j) (front ++ Asked a ∷ back) → IsInUse first j n
    → IsUnder first (j ++ (front ++ Asked a ∷ back)) e
new_under first j front back a n e id program under none unasked asks used =
    let rows = front ++ Asked a ∷ back in
    let plain = all_none j (front ++ Asked a ∷ back) asks in
    let keeps : KeepsPlaces j (j ++ (front ++ Asked a ∷ back)) = record { now = now_stays j rows plain; replaced = replaced_stays j rows plain } in
    let later = use_more first j rows keeps n used in
    let number : e.under.now.number ≡ n.number = ap (λ (u : Under). u.now.number) under in
    record {
      number = some_and (asked e.id (j ++ rows)) a (λ (r : AskedRow). e.under.now.number ≡ program_now r.program (j ++ rows))
          (asked_there e.id j front back a none unasked (eq-eqb a.id e.id id))
          (number ∙ sym (ap (λ k. program_now k (j ++ rows)) program ∙ number_stands n.number (j ++ rows) later.stands));
      now = subst (IsInUse first (j ++ rows)) (sym (ap (λ (u : Under). u.now) under)) later;
      ran = subst (IsThere first (j ++ rows)) (sym (ap (λ (u : Under). u.ran) under)) later.there;
    }

-- ---- a flight that goes on

-- the service's programs follow from its journal, the flight's is in use, and nothing was asked under the next number
abbrev pub CanGoUnder : Kept → Flight → Type 0
CanGoUnder s f =
    FitsPrograms s × (IsInUse s.setting.program s.journal f.program × ((asked (next_id s) s.journal ≡ None) × (s.horizon ≤ length s.entries)))

go_noted : (s : Kept) (f : Flight) (rows : List Row) → Each IsCallerRow rows → CanGoUnder s f → CanGoUnder (noted rows s) f
go_noted s f rows callers c =
    let asks = callers_ask s.journal rows callers in
    let plain = all_none s.journal rows asks in
    let keeps : KeepsPlaces s.journal (s.journal ++ rows) = record { now = now_stays s.journal rows plain; replaced = replaced_stays s.journal rows plain } in (
      programs_more s.setting.program s.began s.rules s.newest (folded s) (unfolded s) s.flights s.journal rows asks c.0,
      (
        use_more s.setting.program s.journal rows keeps f.program c.1.0,
        (word_same IsCallerRow (asked_step (next_id s)) (made_caller (next_id s)) None s.journal rows callers ∙ c.1.1.0, c.1.1.1),
      ),
    )

-- ---- a commit

took_asks : (j : List Row) (o : Origin) (q : Request) → Each (AsksUnder j) (took_rows o q)
took_asks j Outside q = tt
took_asks j (Call c n) q = (tt, tt)

committed_under : (s : Kept) (f : Flight) (t : Trace) → CanGoUnder s f → LeavesUnder (committed s f t)
committed_under s f t c =
    let first = s.setting.program in
    let j = s.journal in
    let surplus = surplus_rows s f t in
    let callers = deleted_callers s.registers (drop (length t.calls) f.numbers) (drop (length t.calls) f.calls) in
    let a : AskedRow = record { id = next_id s; origin = f.origin; request = f.request; inputs = f.inputs; program = f.program.number } in
    let back = took_rows f.origin f.request ++ live_answer s f t ∷ [] in
    let x = committed_entry s f t in
    let fs = without_flight f.id s.flights in
    let asks : Each (AsksUnder s.journal) (surplus_rows s f t ++ Asked a ∷ (took_rows f.origin f.request ++ live_answer s f t ∷ [])) =
    each_append (AsksUnder j) surplus (Asked a ∷ back) (callers_ask j surplus callers)
    ((number_there first j f.program c.1.0.there, c.1.0.stands), each_append (AsksUnder j) (took_rows f.origin f.request) (live_answer s f t ∷ []) (took_asks j f.origin f.request) (tt, tt)) in
    let more = programs_more first s.began s.rules s.newest (folded s) (unfolded s) s.flights j (surplus ++ Asked a ∷ back) asks c.0 in
    let new = new_under first j surplus back a f.program x refl refl refl c.1.1.0 (callers_unasked surplus callers) asks c.1.0 in
    let J : List Row → Type 0 = λ rows. ProgramsFollow first s.began s.rules s.newest (j ++ rows) (folded (committed s f t).service) (unfolded (committed s f t).service) fs in
    let P : List Entry → Type 0 = λ past. ProgramsFollow first s.began s.rules s.newest (j ++ (surplus ++ Asked a ∷ back)) past (unfolded (committed s f t).service) fs in
    let E : List Entry → Type 0 = λ es. ProgramsFollow first s.began s.rules s.newest (j ++ (surplus ++ Asked a ∷ back)) (folded s) es fs in
    subst J (sym (append_assoc surplus (Asked a ∷ took_rows f.origin f.request) (live_answer s f t ∷ [])))
    (subst P (sym (push_stays s x c.1.1.1))
    (subst E (sym (push_unfolded s x c.1.1.1))
    (programs_with first s.began s.rules s.newest (folded s) (unfolded s) s.flights (j ++ (surplus ++ Asked a ∷ back)) (unfolded s ++ x ∷ []) fs more
    (All-push (IsUnder first (j ++ (surplus ++ Asked a ∷ back))) (unfolded s) x more.entries new)
    (All-filter (λ g. not (has_flight f.id g)) (λ (g : Flight). IsInUse first (j ++ (surplus ++ Asked a ∷ back)) g.program) s.flights more.flights))))

-- ---- a flight waits

all_put : (P : Flight → Type 0) (f : Flight) (fs : List Flight) → P f → All P fs → All P (put_flight f fs)
all_put P f [] here all = All-cons P f [] here all
all_put P f (g ∷ gs) here all =
    cond_both (nat_lt f.id g.id) (f ∷ g ∷ gs) (g ∷ put_flight f gs) (All P) (λ _. All-cons P f (g ∷ gs) here all)
    (λ _. All-cons P g (put_flight f gs) (All-head P g gs all) (all_put P f gs here (All-tail P g gs all)))

waits_under : (s : Kept) (f : Flight) (number : ℕ) (call : CallMade) → CanGoUnder s f → LeavesUnder (waits s f number call)
waits_under s f number call c =
    let U : Flight → Type 0 = λ g. IsInUse s.setting.program s.journal g.program in
    programs_with s.setting.program s.began s.rules s.newest (folded s) (unfolded s) s.flights s.journal (unfolded s) (with_flight f s.flights) c.0 c.0.entries
    (all_put U f (without_flight f.id s.flights) c.1.0 (All-filter (λ g. not (has_flight f.id g)) U s.flights c.0.flights))

-- ---- it goes on

named_go : (s : Kept) (f : Flight) (call : CallMade) → CanGoUnder s f → CanGoUnder (noted (named (next_number s.registers) call ∷ []) s) f
named_go s f call c = go_noted s f (named (next_number s.registers) call ∷ []) (tt, tt) c

change_go : (s : Kept) (f : Flight) (slot : ℕ) (call : CallMade) → CanGoUnder s f → CanGoUnder (noted (change_rows s f slot call) s) f
change_go s f slot call c = go_noted s f (change_rows s f slot call) (change_callers s f slot call) c

completing_under : (s : Kept) (f : Flight) (ran : Ran) (move : Move) (again : Kept → Flight → After Arrived) → ((s' : Kept) (f' : Flight) → CanGoUnder s' f' → LeavesUnder (again s' f'))
    → CanGoUnder s f → LeavesUnder (completing s f ran move again)
completing_under s f ran Commit again keeps c = committed_under s f (trace_or_dead ran) c
completing_under s f ran Name again keeps c =
    call_keeps LeavesUnder (wanted_of ran) (λ call. again (named_unsent s call) (with_slot (next_number s.registers) call f)) (committed s f (trace_or_dead ran))
    (λ call. keeps (named_unsent s call) (with_slot (next_number s.registers) call f) (named_go s f call c)) (committed_under s f (trace_or_dead ran) c)
completing_under s f ran (Change slot) again keeps c =
    call_keeps LeavesUnder (slice_get (calls_in ran) slot) (λ call. again (changed_unsent s f slot call) (with_change slot (next_number s.registers) call f)) (committed s f (trace_or_dead ran))
    (λ call. keeps (changed_unsent s f slot call) (with_change slot (next_number s.registers) call f) (change_go s f slot call c)) (committed_under s f (trace_or_dead ran) c)

completed_under : (runs : ℕ) (s : Kept) (f : Flight) → CanGoUnder s f → LeavesUnder (completed runs s f)
completed_under zero s f c = committed_under s f dead_trace c
completed_under (suc runs) s f c =
    completing_under s f (flight_run s f) (next_move f (flight_run s f)) (completed runs) (λ s' f' c'. completed_under runs s' f' c') c

changed_under : (s : Kept) (f : Flight) (slot : ℕ) (call : CallMade) → CanGoUnder s f → LeavesUnder (changed s f slot call)
changed_under s f slot call c =
    let s' = noted (change_rows s f slot call) s in
    let f' = with_change slot (next_number s.registers) call f in
    cond_both (nat_le 3 f.changes) (completed 17 (changed_unsent s f slot call) f') (waits s' f' (next_number s.registers) call) LeavesUnder
    (λ _. completed_under 17 (changed_unsent s f slot call) f' (change_go s f slot call c))
    (λ _. waits_under s' f' (next_number s.registers) call (change_go s f slot call c))

moved_under : (s : Kept) (f : Flight) (ran : Ran) (move : Move) → CanGoUnder s f → LeavesUnder (moved s f ran move)
moved_under s f ran Commit c = committed_under s f (trace_or_dead ran) c
moved_under s f ran Name c =
    call_keeps LeavesUnder (wanted_of ran)
    (λ call. waits (noted (named (next_number s.registers) call ∷ []) s) (with_slot (next_number s.registers) call f) (next_number s.registers) call) (committed s f (trace_or_dead ran))
    (λ call. waits_under (noted (named (next_number s.registers) call ∷ []) s) (with_slot (next_number s.registers) call f) (next_number s.registers) call (named_go s f call c))
    (committed_under s f (trace_or_dead ran) c)
moved_under s f ran (Change slot) c =
    call_keeps LeavesUnder (slice_get (calls_in ran) slot) (λ call. changed s f slot call) (committed s f (trace_or_dead ran)) (λ call. changed_under s f slot call c)
    (committed_under s f (trace_or_dead ran) c)

goes_on_under : (s : Kept) (f : Flight) → CanGoUnder s f → LeavesUnder (goes_on s f)
unfolding goes_on
goes_on_under s f c = moved_under s f (flight_run s f) (next_move f (flight_run s f)) c

-- ---- the events

module _ (s : Kept) (h : Fits s) where
  free : asked (next_id s) s.journal ≡ None
  free = unmade s.journal s.entries s.replies (logged s h)

  -- a flight that is there
  can_go : (id : ℕ) (f : Flight) → flight_of id s ≡ Some f → CanGoUnder s f
  can_go id f found = (
    h.programs,
    (found_all (λ (g : Flight). IsInUse s.setting.program s.journal g.program) (has_flight id) s.flights f h.programs.flights found, (free, h.horizon.within)),
  )

  pub admitted_under : (o : Origin) (q : Request) (i : Inputs) (full : Option ℕ) → LeavesUnder (admitted s o q i full)
  admitted_under o q i (Some n) = h.programs
  admitted_under o q i None = goes_on_under s (new_flight s o q i) (h.programs, (h.programs.current, (free, h.horizon.within)))

  known_under : (c : List ℕ) (n : ℕ) (e : Entry) (made : Option Record) → LeavesUnder (known_by s c n e made)
  known_under c n e None = h.programs
  known_under c n e (Some m) = h.programs

  or_known_under : (c : List ℕ) (n : ℕ) (q : Request) (i : Inputs) (o : Option Entry) → LeavesUnder (arrives_or_known s c n q i o)
  or_known_under c n q i None = admitted_under (Call c n) q i (or_else (is_crowded s) (is_heavy s))
  or_known_under c n q i (Some e) = known_under c n e (record_of e)

  by_version_under : (version : ℕ) (desired : Option Request) (known : After (Result Arrived ArriveRefused)) → LeavesUnder known → LeavesUnder (by_version s version desired known)
  by_version_under version None known keeps = h.programs
  by_version_under version (Some q) known keeps = keeps

  unless_gone_under : (last : Option TookRow) (known : After (Result Arrived ArriveRefused)) → LeavesUnder known → LeavesUnder (unless_gone s last known)
  unless_gone_under None known keeps = keeps
  unless_gone_under (Some t) known keeps = by_version_under t.version t.desired known keeps

  pub call_under : (c : List ℕ) (n : ℕ) (q : Request) (i : Inputs)
      → LeavesUnder (unless_gone s (last_taken c n s.journal) (arrives_or_known s c n q i (find_call (Call c n) s.entries)))
  call_under c n q i =
      let entry = find_call (Call c n) s.entries in
      unless_gone_under (last_taken c n s.journal) (arrives_or_known s c n q i entry) (or_known_under c n q i entry)

  pub answered_under : (id : ℕ) (a : AnswerMessage) (o : Option Flight) → flight_of id s ≡ o → LeavesUnder (answered_flight s id a o)
  answered_under id a None is = h.programs
  answered_under id a (Some f) is =
      cond_both (is_for s a f) (accepted (goes_on (noted (live_answer_rows s a) s) f)) (after s (Err (CallRefused.NoFlight id))) LeavesUnder
      (λ _. goes_on_under (noted (live_answer_rows s a) s) f
      (go_noted s f (live_answer_rows s a) (tt, heard_callers s a (is_new_to a (register a.number s.registers))) (can_go id f is)))
      (λ _. h.programs)

  pub failed_under : (id number : ℕ) (why : Why) (o : Option Flight) → flight_of id s ≡ o → LeavesUnder (failed_flight s id number why o)
  failed_under id number why None is = h.programs
  failed_under id number why (Some f) is =
      cond_both (nat_eq (awaited f) number) (accepted (goes_on (told number why s) f)) (after s (Err (CallRefused.NoFlight id))) LeavesUnder
      (λ _. goes_on_under (told number why s) f (can_go id f is)) (λ _. h.programs)

  pub abandoned_under : (o : Option Flight) → LeavesUnder (abandoned s o)
  abandoned_under None = h.programs
  abandoned_under (Some f) =
      let rows = all_deleted s.registers f.numbers f.calls in
      let more = programs_more s.setting.program s.began s.rules s.newest (folded s) (unfolded s) s.flights s.journal rows
      (callers_ask s.journal rows (deleted_callers s.registers f.numbers f.calls)) h.programs in
      programs_with s.setting.program s.began s.rules s.newest (folded s) (unfolded s) s.flights (s.journal ++ rows) (unfolded s) (without_flight f.id s.flights) more more.entries
      (All-filter (λ g. not (has_flight f.id g)) (λ (g : Flight). IsInUse s.setting.program (s.journal ++ rows) g.program) s.flights more.flights)
