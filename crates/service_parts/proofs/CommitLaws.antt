-- What a live request is committed with: what its run on the rows at the end of the log did, and an entry that isn't stale.
use Rattle.service_events.proofs.KindLemmas.{sends_deleted}
use Rattle.service_events.proofs.LiveRows.{IsSilent, live-append, live_same, silent_none, sending_silent, took_silent, got_behind}
use Rattle.service_events.proofs.CallRowLemmas.{Each, each_append, each_weaker, fold_same, word_same, IsSending}
use Rattle.journal_rows.specs.declared.caller.AckHow.TheVariants.{WithAnswer}
use Rattle.journal_rows.specs.declared.callee.AskedRow.{AskedRow}
use Rattle.journal_rows.specs.declared.row.Row.TheVariants.{Asked, Answered, Sent, SawAck, SawAnswer}
use Rattle.journal_rows.specs.declared.row.Row.{Row}
use Rattle.std.proofs.Common.{◌≡◌, ℕ, zero, suc, ◌+◌, ◌<◌, ◌≤◌, Bool, true, false, List, [], ◌∷◌, ◌++◌, Option, Some, None, Result, Err, IsSomeAnd, MatchOption, length, slice_get, find, fold, nat_eq, nat_le, nat_lt, refl, sym, ap, ◌∙◌, subst, inl, inr, arith, eq-eqb, length-append, if◌then◌else◌, drop, append_assoc}
use Rattle.std.proofs.lemmas.Bool.{and_parts, cases_Bool}
use Rattle.std.proofs.lemmas.List.{length-map}
use Rattle.std.proofs.lemmas.List.Sums.{fold-append}
use Rattle.lang_core.specs.declared.ids.Origin.{Origin}
use Rattle.lang_core.specs.declared.ids.Origin.TheVariants.{Outside, Call}
use Rattle.lang_core.specs.declared.inputs.Inputs.{Inputs}
use Rattle.lang_core.specs.declared.request.Request.{Request}
use Rattle.lang_core.specs.declared.trace.CallMade.{CallMade}
use Rattle.lang_core.specs.declared.trace.Trace.{Trace}
use Rattle.lang_programs.specs.Numbered.{Numbered}
use Rattle.handler_run.specs.declared.state.Ran.{Ran}
use Rattle.handler_run.specs.declared.state.Ran.TheVariants.{Done, Wants}
use Rattle.request_log.specs.Entries.{find_call}
use Rattle.request_log.specs.Records.{Record, record_of}
use Rattle.request_log.specs.declared.entry.Entry.{Entry}
use Rattle.local_repair.specs.Alone.{trace_or_dead}
use Rattle.repair_messages.specs.declared.messages.AnswerMessage.{AnswerMessage}
use Rattle.journal_rows.specs.Words.{asked, asked_step, last_taken, last_taken_of}
use Rattle.journal_rows.specs.declared.callee.TookRow.{TookRow}
use Rattle.call_registers.specs.Registers.{register, next_number}
use Rattle.call_registers.specs.declared.register.Why.{Why}
use Rattle.flights.specs.Moves.{calls_in, first_other, by_run, change_or}
use Rattle.flights.specs.declared.flight.Flight.{Flight}
use Rattle.service_events.specs.State.{Kept, After, after, answers, or_else, is_crowded, is_heavy, is_in_flight, has_flight, flight_of, without_flight, put_flight, with_flight, next_id}
use Rattle.service_events.specs.Arriving.{accepted, new_flight, admitted, known_by, arrives_or_known, by_version, unless_gone, arrive_event, answers_register, is_for, live_answer_rows, answered_flight, call_answered_event, told, failed_flight, call_failed_event, is_new_to, seen_live}
use Rattle.service_events.specs.declared.refusals.ArriveRefused.TheVariants.{NotYet}
use Rattle.service_events.specs.declared.refusals.CallRefused.TheVariants.{NoFlight}
use Rattle.service_events.specs.Calls.{noted, named}
use Rattle.service_events.specs.Commits.{live_rows, live_answer_of, IsInFlight, Leaves, Commits, CommitsFlight}
use Rattle.service_events.specs.Fits.{Fits}
use Rattle.service_events.specs.Flying.{flight_run, awaited, before_answer, live_answer, committed_entry, committed, with_slot, with_change, change_rows, waits, call_or_none, named_unsent, changed_unsent, completing, completed, changed, moved, goes_on, surplus_rows, took_rows, answer_index}
use Rattle.service_events.specs.declared.answers.Arrived.{Arrived}
use Rattle.service_events.proofs.AloftLemmas.{IsAloft, aloft_by}
use Rattle.service_events.proofs.FreshLemmas.{unmade}
use Rattle.service_events.proofs.GrowthLemmas.{follows_none, few_calls}
use Rattle.service_events.proofs.LiveRuns.{runs_of, answers_given, grows, changed_aloft, Completes, name_completes, change_completes, RanBehind}
use Rattle.service_events.proofs.PartLemmas.{logged}
use Rattle.service_events.proofs.CallLaws.{FitsCalls, calls_of_fits, IsFew, Goes, goes_same, goes_then, goes_longer}
use Rattle.service_events.proofs.CurrentLaws.{committed_current, committed_ran}
use Rattle.service_events.proofs.FlightLaws.{flying, goes_untold, sends_change}
use Rattle.service_events.proofs.GoingLaws.{is_other, goes_named_unsent, goes_changed_unsent, goes_on_goes}
use Rattle.service_events.proofs.LiveCallLaws.{begins, has_entry, outside_apart, flies_known, answered_by, heard_goes}

-- ---- rows that commit nothing and ask of no entry

-- it is of an own call
abbrev IsQuiet : Row → Type 0
IsQuiet (Sent s) = Unit {0}
IsQuiet (SawAck a) = Unit {0}
IsQuiet (SawAnswer a) = Unit {0}
IsQuiet row = ⊥

-- it asks of no entry
abbrev IsUnasking : Row → Type 0
IsUnasking (Asked a) = ⊥
IsUnasking row = Unit {0}

sending_quiet : (row : Row) → IsSending row → IsQuiet row
sending_quiet (Sent s) h = tt
sending_quiet row h = absurd h

quiet_silent : (row : Row) → IsQuiet row → IsSilent row
quiet_silent (Sent s) h = tt
quiet_silent (SawAck a) h = tt
quiet_silent (SawAnswer a) h = tt
quiet_silent row h = absurd h

quiet_unasking : (row : Row) → IsQuiet row → IsUnasking row
quiet_unasking (Sent s) h = tt
quiet_unasking (SawAck a) h = tt
quiet_unasking (SawAnswer a) h = tt
quiet_unasking row h = absurd h

took_unasking : (o : Origin) (q : Request) → Each IsUnasking (took_rows o q)
took_unasking Outside q = tt
took_unasking (Call c n) q = (tt, tt)

unasking_stays : (id : ℕ) (made : Option AskedRow) (row : Row) → IsUnasking row → asked_step id made row ≡ made
unasking_stays id made (Asked a) h = absurd h
unasking_stays id made row h = refl

-- a row that asks, where no row before it did
asks_here : (id : ℕ) (a : AskedRow) (rows more : List Row) → a.id ≡ id → Each IsUnasking rows → Each IsUnasking more
    → fold (asked_step id) None (rows ++ Asked a ∷ more) ≡ Some a
asks_here id a rows more same before behind =
    fold-append (asked_step id) None rows (Asked a ∷ more)
    ∙ ap (λ made. fold (asked_step id) made (Asked a ∷ more)) (fold_same IsUnasking (asked_step id) (unasking_stays id) rows None before)
    ∙ ap (λ made. fold (asked_step id) made more) here
    ∙ fold_same IsUnasking (asked_step id) (unasking_stays id) more (Some a) behind
  where
    here : asked_step id None (Asked a) ≡ Some a
    here = (let is = eq-eqb a.id id same in rw is refl)

-- no row asked of the next entry
abbrev IsUnasked : Kept → Type 0
IsUnasked s = asked (next_id s) s.journal ≡ None

-- nothing was committed in between, and nothing made
record IsBefore (s t : Kept) : Type 0 where
  pub entries : t.entries ≡ s.entries
  pub lives : live_rows t.journal ≡ live_rows s.journal
  pub unasked : IsUnasked s → IsUnasked t

before_itself : (s : Kept) → IsBefore s s
before_itself s = record { entries = refl; lives = refl; unasked = λ h. h }

before_then : (s t u : Kept) → IsBefore s t → IsBefore t u → IsBefore s u
before_then s t u a b =
    record { entries = b.entries ∙ a.entries; lives = b.lives ∙ a.lives; unasked = λ h. b.unasked (a.unasked h) }

before_rows : (s t : Kept) (rows : List Row) → t.entries ≡ s.entries → t.journal ≡ s.journal ++ rows → Each IsQuiet rows → IsBefore s t
before_rows s t rows entries journal quiet = record {
  entries = entries;
  lives = ap live_rows journal ∙ live_same s.journal rows (each_weaker IsQuiet IsSilent quiet_silent rows quiet);
  unasked = λ h.
      ap (λ (es : List Entry). asked (length es + 1) t.journal) entries ∙ ap (asked (next_id s)) journal
      ∙ word_same IsUnasking (asked_step (next_id s)) (unasking_stays (next_id s)) None s.journal rows (each_weaker IsQuiet IsUnasking quiet_unasking rows quiet)
      ∙ h;
}

-- ---- where a flight ends

-- where a flight comes from, what it asks, its inputs and its program
abbrev request_of : Flight → Origin × (Request × (Inputs × Numbered))
request_of f = (f.origin, (f.request, (f.inputs, f.program)))

-- it is committed, after its calls became others, where its run ended
record Ends (s : Kept) (f : Flight) (a : After Arrived) : Type 0 where
  pub at : Kept
  pub flight : Flight
  pub trace : Trace
  pub is : a ≡ committed at flight trace
  pub done : flight_run at flight ≡ Done trace
  pub asks : request_of flight ≡ request_of f
  pub before : IsBefore s at
  pub goes : Goes (flying s f) (flying at flight)

ends_here : (s : Kept) (f : Flight) (t : Trace) → flight_run s f ≡ Done t → Ends s f (committed s f t)
ends_here s f t done =
    record { at = s; flight = f; trace = t; is = refl; done = done; asks = refl; before = before_itself s; goes = goes_same (flying s f) }

ends_after : (s : Kept) (f : Flight) (t : Kept) (g : Flight) (a : After Arrived) → request_of g ≡ request_of f → IsBefore s t
    → Goes (flying s f) (flying t g) → Ends t g a → Ends s f a
ends_after s f t g a same quiet first e = record {
  at = e.at;
  flight = e.flight;
  trace = e.trace;
  is = e.is;
  done = e.done;
  asks = e.asks ∙ same;
  before = before_then s t e.at quiet e.before;
  goes = goes_then (flying s f) (flying t g) (flying e.at e.flight) first e.goes;
}

-- a call that is there is taken
pub with_call : (P : After Arrived → Type 0) (o : Option CallMade) (c : CallMade) (go : CallMade → After Arrived) (never : After Arrived) → o ≡ Some c → P (go c)
    → P (call_or_none o go never)
with_call P None c go never e h = cc
with_call P (Some d) c go never e h = (let Q : CallMade → Type 0 = λ x. P (go x) in subst Q (sym (call_is d c e)) h)
  where
    call_is : (a b : CallMade) → Some a ≡ Some b → a ≡ b
    call_is a b e = cc

-- a call that is named or changed commits nothing
named_before : (s t : Kept) (c : CallMade) → t.entries ≡ s.entries → t.journal ≡ s.journal ++ named (next_number s.registers) c ∷ [] → IsBefore s t
named_before s t c entries journal = before_rows s t (named (next_number s.registers) c ∷ []) entries journal (tt, tt)

changed_before : (s : Kept) (f : Flight) (slot : ℕ) (c : CallMade) (t : Kept) → t.entries ≡ s.entries → t.journal ≡ s.journal ++ change_rows s f slot c
    → IsBefore s t
changed_before s f slot c t entries journal =
    let rows = change_rows s f slot c in
    let sends = sends_change s (slice_get f.numbers slot) (slice_get f.calls slot) (next_number s.registers) c in
    before_rows s t rows entries journal (each_weaker IsSending IsQuiet sending_quiet rows sends)

ends_completing : (again : Kept → Flight → After Arrived) (s : Kept) (f : Flight) (k : ℕ)
    → ((t : Kept) (g : Flight) → Completes t g (k + 1) → Ends t g (again t g)) → Completes s f k
    → (ran : Ran) → flight_run s f ≡ ran → (o : Option ℕ) → first_other f.calls (calls_in ran) ≡ o
    → Ends s f (completing s f ran (change_or o (by_run ran)) again)
ends_completing again s f k ends c ran is (Some slot) e =
    let next = next_number s.registers in
    let at = is_other f.calls (calls_in ran) slot e in
    let same = ap calls_in is in
    let t = changed_unsent s f slot at.call in
    let g = with_change slot next at.call f in
    with_call (Ends s f) (slice_get (calls_in ran) slot) at.call (λ x. again (changed_unsent s f slot x) (with_change slot next x f)) (committed s f (trace_or_dead ran)) at.there
    (ends_after s f t g (again t g) refl (changed_before s f slot at.call t refl refl) (goes_changed_unsent s f slot at.call at.within)
    (ends t g (change_completes s f k slot at.call (ap (first_other f.calls) same ∙ e) (ap (λ xs. slice_get xs slot) same ∙ at.there) c)))
ends_completing again s f k ends c (Done t) is None e = ends_here s f t is
ends_completing again s f k ends c (Wants place made call) is None e =
    let next = next_number s.registers in
    let t = named_unsent s call in
    let g = with_slot next call f in
    ends_after s f t g (again t g) refl (named_before s t call refl refl) (goes_named_unsent s f call)
    (ends t g (name_completes s f k place made call is (ap (λ r. first_other f.calls (calls_in r)) is ∙ e) c))

ends_completed : (runs : ℕ) (s : Kept) (f : Flight) (k : ℕ) → 17 ≤ k + runs → Completes s f k → Ends s f (completed runs s f)
ends_completed zero s f k enough c =
    (let there = c.follows.there in let few = few_calls (runs_of s f) (grows s f) (answers_given s f) in absurd (omega (arith, enough, there, few)))
ends_completed (suc runs) s f k enough c =
    ends_completing (completed runs) s f k (λ t g d. ends_completed runs t g (k + 1) (omega (arith, enough)) d) c
    (flight_run s f) refl (first_other f.calls (calls_in (flight_run s f))) refl

-- ---- what a flight comes to

-- where calls fit, no row asked of the next entry, and rows can be counted
abbrev Comes : Kept → Flight → After Arrived → Type 0
Comes s f a = FitsCalls (flying s f) → IsUnasked s → IsFew a.service
    → Leaves s.entries (live_rows s.journal) f.origin f.request f.inputs f.program a.service a.answer

abbrev asking : Kept → Flight → AskedRow
asking s f = record { id = next_id s; origin = f.origin; request = f.request; inputs = f.inputs; program = f.program.number }

commit_there : (s : Kept) (f : Flight) (t : Trace)
    → slice_get (committed s f t).service.journal (answer_index s f t) ≡ Some (Answered (live_answer_of (next_id s) f.origin t.response))
commit_there s f t =
    let before = before_answer s f t in
    let live = live_answer s f t in
    ap (λ j. slice_get j (answer_index s f t)) (sym (append_assoc s.journal before (live ∷ [])))
    ∙ ap (slice_get ((s.journal ++ before) ++ live ∷ [])) (sym (length-append s.journal before)) ∙ got_behind (s.journal ++ before) live []

surplus_sends : (s : Kept) (f : Flight) (t : Trace) → Each IsSending (surplus_rows s f t)
surplus_sends s f t = sends_deleted s.registers (drop (length t.calls) f.numbers) (drop (length t.calls) f.calls)

commit_alone : (s : Kept) (f : Flight) (t : Trace)
    → live_rows (committed s f t).service.journal ≡ live_rows s.journal ++ Answered (live_answer_of (next_id s) f.origin t.response) ∷ []
commit_alone s f t =
    let surplus = surplus_rows s f t in
    let asks = Asked (asking s f) ∷ took_rows f.origin f.request in
    let before = before_answer s f t in
    let live = live_answer s f t in
    let silent = each_append IsSilent surplus asks (each_weaker IsSending IsSilent sending_silent surplus (surplus_sends s f t)) (tt, took_silent f.origin f.request) in
    live-append s.journal (before ++ live ∷ []) ∙ ap (λ zs. live_rows s.journal ++ zs) (live-append before (live ∷ []) ∙ ap (λ zs. zs ++ live ∷ []) (silent_none before silent))

commit_asks : (s : Kept) (f : Flight) (t : Trace) → IsUnasked s → asked (next_id s) (committed s f t).service.journal ≡ Some (asking s f)
commit_asks s f t unasked =
    let id = next_id s in
    let surplus = surplus_rows s f t in
    let took = took_rows f.origin f.request in
    let live = live_answer s f t in
    let rows = before_answer s f t ++ live ∷ [] in
    let quiet = each_weaker IsSending IsUnasking (λ row h. quiet_unasking row (sending_quiet row h)) surplus (surplus_sends s f t) in
    fold-append (asked_step id) None s.journal rows ∙ ap (λ made. fold (asked_step id) made rows) unasked
    ∙ ap (fold (asked_step id) None) (append_assoc surplus (Asked (asking s f) ∷ took) (live ∷ []))
    ∙ asks_here id (asking s f) surplus (took ++ live ∷ []) refl quiet
    (each_append IsUnasking took (live ∷ []) (took_unasking f.origin f.request) (tt, tt))

committed_comes : (s : Kept) (f : Flight) (t : Trace) → flight_run s f ≡ Done t → Comes s f (committed s f t)
committed_comes s f t done h unasked few = record {
  entry = committed_entry s f t;
  trace = t;
  last = refl;
  names = refl;
  origin = refl;
  request = refl;
  inputs = refl;
  under = refl;
  made = refl;
  ran = committed_ran s f t h few done;
  current = committed_current s f t h few done;
  asks = commit_asks s f t unasked;
  there = commit_there s f t;
  alone = commit_alone s f t;
}

ends_comes : (s : Kept) (f : Flight) (a : After Arrived) → Ends s f a → Comes s f a
ends_comes s f a e h unasked few =
    let P : After Arrived → Type 0 = λ x. IsFew x.service in
    let few' : IsFew (committed e.at e.flight e.trace).service = subst P e.is few in
    let rows = before_answer e.at e.flight e.trace ++ live_answer e.at e.flight e.trace ∷ [] in
    let sum = length-append e.at.journal rows in
    let calls = e.goes.keeps (omega (arith, few', sum)) h in
    let a' = committed e.at e.flight e.trace in
    let C : After Arrived → Type 0 = λ x. Leaves s.entries (live_rows s.journal) f.origin f.request f.inputs f.program x.service x.answer in
    let E : List Entry → Type 0 = λ es. Leaves es (live_rows e.at.journal) f.origin f.request f.inputs f.program a'.service a'.answer in
    let L : List Row → Type 0 = λ ls. Leaves s.entries ls f.origin f.request f.inputs f.program a'.service a'.answer in
    let R : Origin × (Request × (Inputs × Numbered)) → Type 0 = λ r. Leaves e.at.entries (live_rows e.at.journal) r.0 r.1.0 r.1.1.0 r.1.1.1 a'.service a'.answer in
    subst C (sym e.is)
    (subst L e.before.lives
    (subst E e.before.entries (subst R e.asks (committed_comes e.at e.flight e.trace e.done calls (e.before.unasked unasked) few'))))

-- ---- a flight that waits

none_left : (id : ℕ) (fs : List Flight) → find (has_flight id) (without_flight id fs) ≡ None
none_left id [] = refl
none_left id (f ∷ fs) = elim (cases_Bool (has_flight id f)) [
  | inl is ↦ rw is (none_left id fs)
  | inr other ↦ rw other (rw other (none_left id fs))
]

found_put : (f : Flight) (fs : List Flight) → find (has_flight f.id) fs ≡ None → find (has_flight f.id) (put_flight f fs) ≡ Some f
found_put f [] none = (let is = eq-eqb f.id f.id refl in rw is refl)
found_put f (g ∷ gs) none = elim (cases_Bool (has_flight f.id g)) [
  | inl is ↦ (let some : Some g ≡ None = rw is at none in cc)
  | inr other ↦ (let rest : find (has_flight f.id) gs ≡ None = rw other at none in
      elim (cases_Bool (nat_lt f.id g.id)) [
        | inl less ↦ (let is = eq-eqb f.id f.id refl in rw less (rw is refl))
        | inr more ↦ rw more (rw other (found_put f gs rest))
      ])
]

waits_flies : (s t : Kept) (f : Flight) (o : Origin) (q : Request) (i : Inputs) (p : Numbered) → t.flights ≡ with_flight f s.flights
    → (o, (q, (i, p))) ≡ request_of f → IsInFlight o q i p f.id t
waits_flies s t f o q i p flights same =
    let found : flight_of f.id t ≡ Some f =
    ap (find (has_flight f.id)) flights ∙ found_put f (without_flight f.id s.flights) (none_left f.id s.flights) in
    let P : Option Flight → Type 0 = λ x. IsSomeAnd x (λ (g : Flight). (g.origin ≡ o) × (g.request ≡ q) × (g.inputs ≡ i) × (g.program ≡ p)) in
    subst P (sym found) (
      ap (λ (r : Origin × (Request × (Inputs × Numbered))). r.0) (sym same),
      ap (λ (r : Origin × (Request × (Inputs × Numbered))). r.1.0) (sym same),
      ap (λ (r : Origin × (Request × (Inputs × Numbered))). r.1.1.0) (sym same),
      ap (λ (r : Origin × (Request × (Inputs × Numbered))). r.1.1.1) (sym same),
    )

waits_comes : (s : Kept) (f : Flight) (t : Kept) (g : Flight) (number : ℕ) (c : CallMade) → request_of g ≡ request_of f → IsBefore s t
    → Leaves s.entries (live_rows s.journal) f.origin f.request f.inputs f.program (waits t g number c).service (waits t g number c).answer
waits_comes s f t g number c same before = (
  record { entries = before.entries; lives = before.lives },
  waits_flies t (waits t g number c).service g f.origin f.request f.inputs f.program refl (sym same),
)

changed_comes : (s : Kept) (f : Flight) (slot : ℕ) (c : CallMade) (many : Bool) → slot < length f.calls → IsAloft s.registers f.numbers f.calls
    → RanBehind s
    → Comes s f
    (if many then completed 17 (changed_unsent s f slot c) (with_change slot (next_number s.registers) c f)
    else waits (noted (change_rows s f slot c) s) (with_change slot (next_number s.registers) c f) (next_number s.registers) c)
changed_comes s f slot c true within aloft runs =
    let t = changed_unsent s f slot c in
    let g = with_change slot (next_number s.registers) c f in
    let own = changed_aloft s f slot c aloft in
    ends_comes s f (completed 17 t g) (ends_after s f t g (completed 17 t g) refl (changed_before s f slot c t refl refl) (goes_changed_unsent s f slot c within)
    (ends_completed 17 t g 0 (omega arith)
    (record { aloft = own; follows = follows_none (runs_of t g) (answers_given t g) g.calls (length-map g.numbers (answers t) ∙ own.many); runs = runs })))
changed_comes s f slot c false within aloft runs = λ h unasked few.
    let t = noted (change_rows s f slot c) s in
    waits_comes s f t (with_change slot (next_number s.registers) c f) (next_number s.registers) c refl (changed_before s f slot c t refl refl)

moved_comes : (s : Kept) (f : Flight) (ran : Ran) → flight_run s f ≡ ran → (o : Option ℕ) → first_other f.calls (calls_in ran) ≡ o
    → IsAloft s.registers f.numbers f.calls → RanBehind s → Comes s f (moved s f ran (change_or o (by_run ran)))
moved_comes s f ran is (Some slot) e aloft runs =
    let at = is_other f.calls (calls_in ran) slot e in
    with_call (Comes s f) (slice_get (calls_in ran) slot) at.call (λ c. changed s f slot c) (committed s f (trace_or_dead ran)) at.there
    (changed_comes s f slot at.call (nat_le 3 f.changes) at.within aloft runs)
moved_comes s f (Done t) is None e aloft runs = committed_comes s f t is
moved_comes s f (Wants place made c) is None e aloft runs = λ h unasked few.
    let t = noted (named (next_number s.registers) c ∷ []) s in
    waits_comes s f t (with_slot (next_number s.registers) c f) (next_number s.registers) c refl (named_before s t c refl refl)

goes_on_comes : (s : Kept) (f : Flight) → IsAloft s.registers f.numbers f.calls → RanBehind s → Comes s f (goes_on s f)
unfolding goes_on
goes_on_comes s f aloft runs =
    moved_comes s f (flight_run s f) refl (first_other f.calls (calls_in (flight_run s f))) refl aloft runs

-- ---- the events

admitted_commits : (s : Kept) (o : Origin) (q : Request) (i : Inputs) (n : Option ℕ) → FitsCalls s → RanBehind s → IsUnasked s → is_in_flight o s ≡ false
    → last_taken_of o s.journal ≡ None → IsFew (admitted s o q i n).service → Commits o q i s.newest s (admitted s o q i n).answer (admitted s o q i n).service
admitted_commits s o q i (Some n) calls runs unasked apart free few = refl
admitted_commits s o q i None calls runs unasked apart free few =
    let f = new_flight s o q i in
    let first = begins s o q i apart free in
    let later = goes_on_goes s f in
    goes_on_comes s f (record { numbered = calls.sent.numbered; apart = tt; within = tt; many = refl }) runs
    (first.keeps (let longer = goes_longer (flying s f) (goes_on s f).service later in omega (arith, few, longer)) calls) unasked few

known_commits : (s : Kept) (c : List ℕ) (n : ℕ) (q : Request) (i : Inputs) (e : Entry) (m : Option Record)
    → Commits (Call c n) q i s.newest s (known_by s c n e m).answer (known_by s c n e m).service
known_commits s c n q i e None = refl
known_commits s c n q i e (Some m) = record { entries = refl; lives = refl }

version_commits : (s : Kept) (c : List ℕ) (n : ℕ) (q : Request) (i : Inputs) (t : TookRow) (d : Option Request) (e : Option Entry) → Fits s
    → last_taken c n s.journal ≡ Some t → t.desired ≡ d → find_call (Call c n) s.entries ≡ e
    → Commits (Call c n) q i s.newest s (by_version s t.version d (arrives_or_known s c n q i e)).answer (by_version s t.version d (arrives_or_known s c n q i e)).service
version_commits s c n q i t None e f last asks entry = refl
version_commits s c n q i t (Some r) (Some e) f last asks entry = known_commits s c n q i e (record_of e)
version_commits s c n q i t (Some r) None f last asks entry = absurd (has_entry s c n t r f last asks entry)

-- no row asked of the next entry of a service that fits its journal
fits_unasked : (s : Kept) → Fits s → IsUnasked s
fits_unasked s f = unmade s.journal s.entries s.replies (logged s f)

call_commits : (s : Kept) (c : List ℕ) (n : ℕ) (q : Request) (i : Inputs) (b : Bool) (t : Option TookRow) (e : Option Entry) → Fits s → is_in_flight (Call c n) s ≡ b
    → last_taken c n s.journal ≡ t → find_call (Call c n) s.entries ≡ e
    → IsFew (if b then after s (Err (NotYet n)) else unless_gone s t (arrives_or_known s c n q i e)).service
    → Commits (Call c n) q i s.newest s (if b then after s (Err (NotYet n)) else unless_gone s t (arrives_or_known s c n q i e)).answer
    (if b then after s (Err (NotYet n)) else unless_gone s t (arrives_or_known s c n q i e)).service
call_commits s c n q i true t e f flies last entry few = refl
call_commits s c n q i false None None f flies last entry few =
    admitted_commits s (Call c n) q i (or_else (is_crowded s) (is_heavy s)) (calls_of_fits s f) (f.horizon.within, f.runs) (fits_unasked s f) flies last few
call_commits s c n q i false None (Some e) f flies last entry few = known_commits s c n q i e (record_of e)
call_commits s c n q i false (Some t) e f flies last entry few = version_commits s c n q i t t.desired e f last refl entry

pub arrive_commits : (s : Kept) (o : Origin) (q : Request) (i : Inputs) → Fits s → IsFew (arrive_event s o q i).service
    → Commits o q i s.newest s (arrive_event s o q i).answer (arrive_event s o q i).service
arrive_commits s Outside q i f few =
    admitted_commits s Outside q i (or_else (is_crowded s) (is_heavy s)) (calls_of_fits s f) (f.horizon.within, f.runs) (fits_unasked s f) (outside_apart s.flights) refl few
arrive_commits s (Call c n) q i f few =
    call_commits s c n q i (is_in_flight (Call c n) s) (last_taken c n s.journal) (find_call (Call c n) s.entries) f refl refl refl few

-- a flight that is there goes on in a service with the same flights, entries and setting
known_comes : (s : Kept) (id : ℕ) (f : Flight) → flight_of id s ≡ Some f → FitsCalls s → RanBehind s → IsUnasked s → IsFew (goes_on s f).service
    → Leaves s.entries (live_rows s.journal) f.origin f.request f.inputs f.program (goes_on s f).service (goes_on s f).answer
known_comes s id f found calls runs unasked few =
    let later = goes_on_goes s f in
    let flies = flies_known s id f found in
    let longer = goes_longer (flying s f) (goes_on s f).service later in
    goes_on_comes s f (aloft_by s id f calls.sent.numbered calls.places found) runs (flies.keeps (omega (arith, few, longer)) calls) unasked few

abbrev saw_ack : AnswerMessage → Row
saw_ack a = SawAck (record { number = a.number; version = a.version; how = WithAnswer a.answer_version })

-- of the flight that is there, if one is
abbrev CommitsKnown : {E : Type 0} → Option Flight → Kept → After (Result Arrived E) → Type 0
CommitsKnown o s a = MatchOption o (a.service ≡ s) (λ (f : Flight). Commits f.origin f.request f.inputs f.program s a.answer a.service)

answered_commits : (s : Kept) (id : ℕ) (a : AnswerMessage) (o : Option Flight) → flight_of id s ≡ o → Fits s → IsFew (answered_flight s id a o).service
    → CommitsKnown o s (answered_flight s id a o)
answered_commits s id a None is f few = refl
answered_commits s id a (Some g) is f few = by_test (is_for s a g) refl few
  where
    heard_quiet : (b : Bool) → Each IsQuiet (saw_ack a ∷ (if b then seen_live a ∷ [] else []))
    heard_quiet true = (tt, (tt, tt))
    heard_quiet false = (tt, tt)

    by_test : (b : Bool) → is_for s a g ≡ b
        → IsFew (if b then accepted (goes_on (noted (live_answer_rows s a) s) g) else after s (Err (NoFlight id))).service
        → CommitsKnown (Some g) s (if b then accepted (goes_on (noted (live_answer_rows s a) s) g) else after s (Err (NoFlight id)))
    by_test false isnt few = refl
    by_test true does few =
        let parts = and_parts (nat_eq (awaited g) a.number) (answers_register a (register a.number s.registers)) does in
        let r = answered_by s a (register a.number s.registers) refl parts.1 in
        let t = noted (live_answer_rows s a) s in
        let later = goes_on_goes t g in
        let longer = goes_longer (flying t g) (goes_on t g).service later in
        let heard = heard_goes s a r.made r.found in
        let before = before_rows s t (live_answer_rows s a) refl refl (heard_quiet (is_new_to a (register a.number s.registers))) in
        let L : List Row → Type 0 = λ ls. Leaves s.entries ls g.origin g.request g.inputs g.program (goes_on t g).service (goes_on t g).answer in
        subst L before.lives
        (known_comes t id g is (heard.keeps (omega (arith, few, longer)) (calls_of_fits s f)) (f.horizon.within, f.runs) (before.unasked (fits_unasked s f)) few)

pub call_answered_commits : (s : Kept) (id : ℕ) (a : AnswerMessage) → Fits s → IsFew (call_answered_event s id a).service
    → CommitsFlight id s (call_answered_event s id a).answer (call_answered_event s id a).service
call_answered_commits s id a f few = answered_commits s id a (flight_of id s) refl f few

failed_commits : (s : Kept) (id number : ℕ) (why : Why) (o : Option Flight) → flight_of id s ≡ o → Fits s → IsFew (failed_flight s id number why o).service
    → CommitsKnown o s (failed_flight s id number why o)
failed_commits s id number why None is f few = refl
failed_commits s id number why (Some g) is f few = by_test (nat_eq (awaited g) number) few
  where
    by_test : (b : Bool) → IsFew (if b then accepted (goes_on (told number why s) g) else after s (Err (NoFlight id))).service
        → CommitsKnown (Some g) s (if b then accepted (goes_on (told number why s) g) else after s (Err (NoFlight id)))
    by_test false few = refl
    by_test true few =
        let t = told number why s in
        let later = goes_on_goes t g in
        let longer = goes_longer (flying t g) (goes_on t g).service later in
        let first = goes_untold s number why in
        known_comes t id g is (first.keeps (omega (arith, few, longer)) (calls_of_fits s f)) (f.horizon.within, f.runs) (fits_unasked s f) few

pub call_failed_commits : (s : Kept) (id number : ℕ) (why : Why) → Fits s → IsFew (call_failed_event s id number why).service
    → CommitsFlight id s (call_failed_event s id number why).answer (call_failed_event s id number why).service
call_failed_commits s id number why f few = failed_commits s id number why (flight_of id s) refl f few
