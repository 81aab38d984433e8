-- Events of live requests and repair steps keep the ages of calls and replies.
use Rattle.std.proofs.Common.{◌≡◌, ℕ, zero, suc, ◌+◌, ◌<◌, Bool, true, false, List, [], ◌∷◌, ◌++◌, Option, Some, None, Result, drop, length, nat_eq, nat_le, slice_get, refl, sym, ap, ◌∙◌, subst, inl, inr, arith, append-nil, append_assoc, eqb-true, eq-eqb, ne_eqb, if◌then◌else◌}
use Rattle.std.proofs.lemmas.Bool.{cases_Bool, cond_both}
use Rattle.lang_core.specs.Traces.{dead_trace}
use Rattle.lang_core.specs.declared.ids.Origin.{Origin}
use Rattle.lang_core.specs.declared.ids.Origin.TheVariants.{Outside, Call}
use Rattle.lang_core.specs.declared.inputs.Inputs.{Inputs}
use Rattle.lang_core.specs.declared.request.Request.{Request}
use Rattle.lang_core.specs.declared.trace.CallMade.{CallMade}
use Rattle.lang_core.specs.declared.trace.Trace.{Trace}
use Rattle.handler_run.specs.declared.state.Ran.{Ran}
use Rattle.request_log.specs.Records.{Record, record_of}
use Rattle.request_log.specs.declared.entry.Entry.{Entry}
use Rattle.request_log.specs.declared.entry.Made.{Made}
use Rattle.local_repair.specs.Alone.{trace_or_dead}
use Rattle.local_repair.specs.Steps.{calls_of_made, is_new_answer, raised}
use Rattle.repair_messages.specs.declared.messages.AnswerMessage.{AnswerMessage}
use Rattle.journal_rows.specs.declared.callee.TookRow.{TookRow}
use Rattle.journal_rows.specs.declared.row.Row.{Row}
use Rattle.journal_rows.specs.declared.caller.AckHow.TheVariants.{WithAnswer}
use Rattle.journal_rows.specs.declared.row.Row.TheVariants.{Asked, Answered, Sent, SawAck}
use Rattle.call_registers.specs.Registers.{register, next_number, with_cause}
use Rattle.call_registers.specs.Replies.{at_entry, with_answer}
use Rattle.call_registers.specs.declared.register.Why.{Why}
use Rattle.call_registers.specs.declared.register.Why.TheVariants.{Changes}
use Rattle.call_registers.specs.declared.reply.Reply.{Reply}
use Rattle.flights.specs.Moves.{calls_in, next_move}
use Rattle.flights.specs.declared.flight.Flight.{Flight}
use Rattle.flights.specs.declared.flight.Move.{Move}
use Rattle.flights.specs.declared.flight.Move.TheVariants.{Commit, Name, Change}
use Rattle.service_events.specs.Ages.{HasAges, IsNotedAt, marks_reply}
use Rattle.service_events.specs.Arriving.{new_flight, admitted, known_by, arrives_or_known, by_version, unless_gone, is_for, is_new_to, seen_live, live_answer_rows, answered_flight, told, failed_flight, abandoned}
use Rattle.service_events.specs.Calls.{noted, named, all_deleted}
use Rattle.service_events.specs.Fits.{Fits}
use Rattle.service_events.specs.Flying.{flight_run, awaited, committed, before_answer, live_answer, live_replies, answer_index, surplus_rows, took_rows, with_slot, with_change, change_rows, waits, wanted_of, named_unsent, changed_unsent, completing, completed, changed, moved, goes_on}
use Rattle.service_events.specs.State.{Kept, After, next_id, or_else, is_crowded, is_heavy}
use Rattle.service_events.specs.Steps.{sent_rows, answer_rows, new_record, Stale, step_by}
use Rattle.service_events.specs.declared.answers.Arrived.{Arrived}
use Rattle.service_events.specs.declared.refusals.ArriveRefused.{ArriveRefused}
use Rattle.service_events.proofs.FreshLemmas.{below_next}
use Rattle.service_events.proofs.LiveEntryLaws.{call_keeps}
use Rattle.service_events.proofs.PartLemmas.{logged}
use Rattle.service_events.proofs.CallLaws.{IsFew}
use Rattle.service_events.proofs.FlightLaws.{sends_change}
use Rattle.service_events.proofs.KindLemmas.{sends_deleted, sends_settled}
use Rattle.service_events.proofs.RegisterLemmas.{flip_false}
use Rattle.service_events.proofs.CallRowLemmas.{Each, each_append, each_weaker, each_of_all, all_of_each, IsSending}
use Rattle.service_parts.proofs.AgeLemmas.{Ages, ages, ages_stay, ages_noted, ages_then, ages_same, KeepsAge, calls_aged, fetches_aged, IsAged, IsMarked, IsUnmarked, MarksNone, all_unmarked, unmarked, unmarked-append, replies_stay, reply_marked, none_any, last_here}

abbrev pub AllMarked : Kept → Type 0
AllMarked s = Each (IsMarked s.journal) s.replies

abbrev pub AgesOf : Kept → Type 0
AgesOf s = HasAges s.journal s.registers s.replies

-- ages are kept where calls follow their rows, and replies are marked still
pub keeps_ages : (s t : Kept) → Fits s → Fits t → IsFew t → Ages s t → (AllMarked s → AllMarked t) → AgesOf s → AgesOf t
keeps_ages s t before fits few calls replies h = record {
  calls = all_of_each (IsAged t.journal) t.registers
      (calls_aged s t before.sent fits.sent few calls (each_of_all (IsAged s.journal) s.registers h.calls));
  fetches = all_of_each (IsNotedAt t.journal) t.registers
      (fetches_aged s t before.sent fits.sent few calls (each_of_all (IsNotedAt s.journal) s.registers h.fetches));
  replies = all_of_each (IsMarked t.journal) t.replies (replies (each_of_all (IsMarked s.journal) s.replies h.replies));
}

sending_none : (row : Row) → IsSending row → MarksNone row
sending_none (Sent s) h = tt
sending_none row h = absurd h

-- ---- rows of own calls

-- rows of own calls came, and entries and replies are as they were
pub record IsStep (s t : Kept) : Type 0 where
  pub rows : List Row
  pub is : t.journal ≡ s.journal ++ rows
  pub none : Each MarksNone rows
  pub calls : Ages s t
  pub entries : t.entries ≡ s.entries
  pub replies : t.replies ≡ s.replies

pub step_noted : (s t : Kept) (rows : List Row) → Each MarksNone rows → t.journal ≡ s.journal ++ rows → t.registers ≡ (noted rows s).registers → t.entries ≡ s.entries
    → t.replies ≡ s.replies → IsStep s t
step_noted s t rows none is registers entries replies =
    record { rows = rows; is = is; none = none; calls = ages_noted s t rows is registers; entries = entries; replies = replies }

step_none : (s t : Kept) → t.journal ≡ s.journal → ages t.registers ≡ ages s.registers → t.entries ≡ s.entries → t.replies ≡ s.replies → IsStep s t
step_none s t same kept entries replies =
    record { rows = []; is = same ∙ sym (append-nil s.journal); none = tt; calls = ages_stay s t same kept; entries = entries; replies = replies }

cause_keeps : (why : Why) → KeepsAge (with_cause why)
cause_keeps why r = refl

step_told : (s : Kept) (number : ℕ) (why : Why) → IsStep s (told number why s)
step_told s number why = step_none s (told number why s) refl (ages_same number (with_cause why) s.registers (cause_keeps why)) refl refl

step_then : (s t u : Kept) → IsStep s t → IsStep t u → IsStep s u
step_then s t u a b = record {
  rows = a.rows ++ b.rows;
  is = b.is ∙ ap (λ j. j ++ b.rows) a.is ∙ append_assoc s.journal a.rows b.rows;
  none = each_append MarksNone a.rows b.rows a.none b.none;
  calls = ages_then s t u a.calls b.calls;
  entries = b.entries ∙ a.entries;
  replies = b.replies ∙ a.replies;
}

pub step_marked : (s t : Kept) → IsStep s t → AllMarked s → AllMarked t
step_marked s t a h =
    let there = replies_stay s.journal a.rows s.replies (all_unmarked s.replies a.rows a.none) h in
    subst (λ ps. Each (IsMarked t.journal) ps) (sym a.replies) (subst (λ j. Each (IsMarked j) s.replies) (sym a.is) there)

-- ---- a flight that goes on

-- no reply is of the next entry
abbrev IsUnreplied : Kept → Type 0
IsUnreplied s = Each (λ (p : Reply). nat_eq (next_id s) p.id ≡ false) s.replies

pub unreplied : (s : Kept) → Fits s → IsUnreplied s
unreplied s f =
    each_weaker (λ (p : Reply). p.id < length s.entries + 1) (λ (p : Reply). nat_eq (next_id s) p.id ≡ false)
    (λ p less. ne_eqb (next_id s) p.id (λ e. omega (arith, e, less))) s.replies
    (each_of_all (λ (p : Reply). p.id < length s.entries + 1) s.replies (below_next s.journal s.entries s.replies (logged s f)))

pub record GoesAged (s t : Kept) : Type 0 where
  pub calls : Ages s t
  pub replies : IsUnreplied s → AllMarked s → AllMarked t

pub aged_step : (s t : Kept) → IsStep s t → GoesAged s t
aged_step s t a = record { calls = a.calls; replies = λ none h. step_marked s t a h }

pub aged_same : (s : Kept) → GoesAged s s
aged_same s = record { calls = ages_stay s s refl refl; replies = λ none h. h }

step_unreplied : (s t : Kept) → IsStep s t → IsUnreplied s → IsUnreplied t
step_unreplied s t a none =
    let there = subst (λ (es : List Entry). Each (λ (p : Reply). nat_eq (length es + 1) p.id ≡ false) s.replies) (sym a.entries) none in
    subst (λ ps. Each (λ (p : Reply). nat_eq (next_id t) p.id ≡ false) ps) (sym a.replies) there

aged_after : (s t u : Kept) → IsStep s t → GoesAged t u → GoesAged s u
aged_after s t u a b = record {
  calls = ages_then s t u a.calls b.calls;
  replies = λ none h. b.replies (step_unreplied s t a none) (step_marked s t a h);
}

named_step : (s t : Kept) (c : CallMade) → t.journal ≡ s.journal ++ named (next_number s.registers) c ∷ []
    → t.registers ≡ (noted (named (next_number s.registers) c ∷ []) s).registers → t.entries ≡ s.entries → t.replies ≡ s.replies → IsStep s t
named_step s t c is registers entries replies = step_noted s t (named (next_number s.registers) c ∷ []) (tt, tt) is registers entries replies

changed_step : (s : Kept) (f : Flight) (slot : ℕ) (c : CallMade) (t : Kept) → t.journal ≡ s.journal ++ change_rows s f slot c
    → t.registers ≡ (noted (change_rows s f slot c) s).registers → t.entries ≡ s.entries → t.replies ≡ s.replies → IsStep s t
changed_step s f slot c t is registers entries replies =
    let rows = change_rows s f slot c in
    let sends = sends_change s (slice_get f.numbers slot) (slice_get f.calls slot) (next_number s.registers) c in
    step_noted s t rows (each_weaker IsSending MarksNone sending_none rows sends) is registers entries replies

unsent_step : (s : Kept) (c : CallMade) → IsStep s (named_unsent s c)
unsent_step s c =
    let mid = noted (named (next_number s.registers) c ∷ []) s in
    step_then s mid (named_unsent s c) (named_step s mid c refl refl refl refl) (step_told mid (next_number s.registers) Changes)

unsent_change : (s : Kept) (f : Flight) (slot : ℕ) (c : CallMade) → IsStep s (changed_unsent s f slot c)
unsent_change s f slot c =
    let mid = noted (change_rows s f slot c) s in
    step_then s mid (changed_unsent s f slot c) (changed_step s f slot c mid refl refl refl refl) (step_told mid (next_number s.registers) Changes)

took_none : (o : Origin) (q : Request) → Each MarksNone (took_rows o q)
took_none Outside q = tt
took_none (Call c n) q = (tt, tt)

before_none : (s : Kept) (f : Flight) (t : Trace) → Each MarksNone (before_answer s f t)
before_none s f t =
    let surplus = surplus_rows s f t in
    let asks = Asked (record { id = next_id s; origin = f.origin; request = f.request; inputs = f.inputs; program = f.program.number }) ∷ took_rows f.origin f.request in
    let sends = sends_deleted s.registers (drop (length t.calls) f.numbers) (drop (length t.calls) f.calls) in
    each_append MarksNone surplus asks (each_weaker IsSending MarksNone sending_none surplus sends) (tt, took_none f.origin f.request)

-- the reply of a committed call is marked by its answer
committed_reply : (s : Kept) (f : Flight) (t : Trace) (o : Origin)
    → Each (IsMarked (s.journal ++ (before_answer s f t ++ live_answer s f t ∷ []))) (live_replies s (answer_index s f t) o)
committed_reply s f t Outside = tt
committed_reply s f t (Call c n) =
    let it = eq-eqb (next_id s) (next_id s) refl in
    (last_here _ s.journal (before_answer s f t) (live_answer s f t) [] (answer_index s f t) refl it refl, tt)

committed_aged : (s : Kept) (f : Flight) (t : Trace) → GoesAged s (committed s f t).service
committed_aged s f t =
    let rows = before_answer s f t ++ live_answer s f t ∷ [] in
    record {
      calls = ages_noted s (committed s f t).service rows refl refl;
      replies = λ none h.
          each_append (IsMarked (s.journal ++ rows)) s.replies (live_replies s (answer_index s f t) f.origin)
          (replies_stay s.journal rows s.replies
          (each_weaker (λ (p : Reply). nat_eq (next_id s) p.id ≡ false) (IsUnmarked rows)
          (λ p other. unmarked-append p (before_answer s f t) (live_answer s f t ∷ []) (unmarked p (before_answer s f t) (before_none s f t))
          (none_any (marks_reply p) (live_answer s f t) other)) s.replies none) h)
          (committed_reply s f t f.origin);
    }

waits_aged : (s t : Kept) (f : Flight) (number : ℕ) (c : CallMade) → IsStep s t → GoesAged s (waits t f number c).service
waits_aged s t f number c a =
    aged_after s t (waits t f number c).service a
    (record { calls = ages_stay t (waits t f number c).service refl refl; replies = λ none h. h })

-- what is left has its ages
abbrev Keeps : Kept → After Arrived → Type 0
Keeps s a = GoesAged s a.service

completing_aged : (s : Kept) (f : Flight) (ran : Ran) (move : Move) (again : Kept → Flight → After Arrived)
    → ((s' : Kept) (f' : Flight) → Keeps s' (again s' f')) → Keeps s (completing s f ran move again)
completing_aged s f ran Commit again aged = committed_aged s f (trace_or_dead ran)
completing_aged s f ran Name again aged =
    call_keeps (Keeps s) (wanted_of ran) (λ call. again (named_unsent s call) (with_slot (next_number s.registers) call f)) (committed s f (trace_or_dead ran))
    (λ call. aged_after s (named_unsent s call) (again (named_unsent s call) (with_slot (next_number s.registers) call f)).service (unsent_step s call)
    (aged (named_unsent s call) (with_slot (next_number s.registers) call f))) (committed_aged s f (trace_or_dead ran))
completing_aged s f ran (Change slot) again aged =
    call_keeps (Keeps s) (slice_get (calls_in ran) slot) (λ call. again (changed_unsent s f slot call) (with_change slot (next_number s.registers) call f)) (committed s f (trace_or_dead ran))
    (λ call. aged_after s (changed_unsent s f slot call) (again (changed_unsent s f slot call) (with_change slot (next_number s.registers) call f)).service (unsent_change s f slot call)
    (aged (changed_unsent s f slot call) (with_change slot (next_number s.registers) call f))) (committed_aged s f (trace_or_dead ran))

completed_aged : (runs : ℕ) (s : Kept) (f : Flight) → Keeps s (completed runs s f)
completed_aged zero s f = committed_aged s f dead_trace
completed_aged (suc runs) s f =
    completing_aged s f (flight_run s f) (next_move f (flight_run s f)) (completed runs) (λ s' f'. completed_aged runs s' f')

changed_aged : (s : Kept) (f : Flight) (slot : ℕ) (c : CallMade) → Keeps s (changed s f slot c)
changed_aged s f slot c =
    let mid = noted (change_rows s f slot c) s in
    cond_both (nat_le 3 f.changes) (completed 17 (changed_unsent s f slot c) (with_change slot (next_number s.registers) c f))
    (waits mid (with_change slot (next_number s.registers) c f) (next_number s.registers) c) (Keeps s)
    (λ _. aged_after s (changed_unsent s f slot c) (completed 17 (changed_unsent s f slot c) (with_change slot (next_number s.registers) c f)).service (unsent_change s f slot c)
    (completed_aged 17 (changed_unsent s f slot c) (with_change slot (next_number s.registers) c f)))
    (λ _. waits_aged s mid (with_change slot (next_number s.registers) c f) (next_number s.registers) c (changed_step s f slot c mid refl refl refl refl))

moved_aged : (s : Kept) (f : Flight) (ran : Ran) (move : Move) → Keeps s (moved s f ran move)
moved_aged s f ran Commit = committed_aged s f (trace_or_dead ran)
moved_aged s f ran Name =
    call_keeps (Keeps s) (wanted_of ran)
    (λ call. waits (noted (named (next_number s.registers) call ∷ []) s) (with_slot (next_number s.registers) call f) (next_number s.registers) call) (committed s f (trace_or_dead ran))
    (λ call. let mid = noted (named (next_number s.registers) call ∷ []) s in
    waits_aged s mid (with_slot (next_number s.registers) call f) (next_number s.registers) call (named_step s mid call refl refl refl refl))
    (committed_aged s f (trace_or_dead ran))
moved_aged s f ran (Change slot) =
    call_keeps (Keeps s) (slice_get (calls_in ran) slot) (λ call. changed s f slot call) (committed s f (trace_or_dead ran))
    (λ call. changed_aged s f slot call) (committed_aged s f (trace_or_dead ran))

goes_on_aged : (s : Kept) (f : Flight) → Keeps s (goes_on s f)
unfolding goes_on
goes_on_aged s f = moved_aged s f (flight_run s f) (next_move f (flight_run s f))

-- ---- an arrival

abbrev KeepsHere : {E : Type 0} → Kept → After (Result Arrived E) → Type 0
KeepsHere s a = GoesAged s a.service

pub admitted_aged : (s : Kept) (o : Origin) (q : Request) (i : Inputs) (full : Option ℕ) → KeepsHere s (admitted s o q i full)
admitted_aged s o q i (Some n) = aged_same s
admitted_aged s o q i None = goes_on_aged s (new_flight s o q i)

known_aged : (s : Kept) (c : List ℕ) (n : ℕ) (e : Entry) (r : Option Record) → KeepsHere s (known_by s c n e r)
known_aged s c n e None = aged_same s
known_aged s c n e (Some r) = aged_same s

pub call_aged : (s : Kept) (c : List ℕ) (n : ℕ) (q : Request) (i : Inputs) (e : Option Entry) → KeepsHere s (arrives_or_known s c n q i e)
call_aged s c n q i None = admitted_aged s (Call c n) q i (or_else (is_crowded s) (is_heavy s))
call_aged s c n q i (Some e) = known_aged s c n e (record_of e)

version_aged : (s : Kept) (version : ℕ) (d : Option Request) (a : After (Result Arrived ArriveRefused)) → KeepsHere s a → KeepsHere s (by_version s version d a)
version_aged s version None a k = aged_same s
version_aged s version (Some q) a k = k

pub gone_aged : (s : Kept) (t : Option TookRow) (a : After (Result Arrived ArriveRefused)) → KeepsHere s a → KeepsHere s (unless_gone s t a)
gone_aged s None a k = k
gone_aged s (Some t) a k = version_aged s t.version t.desired a k

-- ---- a call's answer and its failure

heard_step : (s : Kept) (a : AnswerMessage) → IsStep s (noted (live_answer_rows s a) s)
heard_step s a = step_noted s (noted (live_answer_rows s a) s) (live_answer_rows s a) (none (is_new_to a (register a.number s.registers))) refl refl refl refl
  where
    none : (b : Bool) → Each MarksNone (SawAck (record { number = a.number; version = a.version; how = WithAnswer a.answer_version }) ∷ (if b then seen_live a ∷ [] else []))
    none true = (tt, (tt, tt))
    none false = (tt, tt)

pub answered_aged : (s : Kept) (id : ℕ) (a : AnswerMessage) (o : Option Flight) → KeepsHere s (answered_flight s id a o)
answered_aged s id a None = aged_same s
answered_aged s id a (Some f) = elim (cases_Bool (is_for s a f)) [
  | inl does ↦ (let t = noted (live_answer_rows s a) s in rw does (aged_after s t (goes_on t f).service (heard_step s a) (goes_on_aged t f)))
  | inr isnt ↦ rw isnt (aged_same s)
]

pub failed_aged : (s : Kept) (id number : ℕ) (why : Why) (o : Option Flight) → KeepsHere s (failed_flight s id number why o)
failed_aged s id number why None = aged_same s
failed_aged s id number why (Some f) = elim (cases_Bool (nat_eq (awaited f) number)) [
  | inl does ↦ (let t = told number why s in rw does (aged_after s t (goes_on t f).service (step_told s number why) (goes_on_aged t f)))
  | inr isnt ↦ rw isnt (aged_same s)
]

-- ---- an abandonment

pub abandoned_step : (s : Kept) (o : Option Flight) → IsStep s (abandoned s o).service
abandoned_step s None = step_none s s refl refl refl refl
abandoned_step s (Some f) =
    let rows = all_deleted s.registers f.numbers f.calls in
    step_noted s (abandoned s (Some f)).service rows (each_weaker IsSending MarksNone sending_none rows (sends_deleted s.registers f.numbers f.calls)) refl refl refl refl

-- ---- a repair step

abbrev answer_of : Entry → Made → Row
answer_of e m =
    Answered (record {
      id = e.id;
      origin = e.origin;
      answer_version = raised e.answer_version;
      version = e.version;
      response = m.trace.response;
      live = false;
    })

pub each_all : {X : Type 0} (P : X → Type 0) → ((x : X) → P x) → (xs : List X) → Each P xs
each_all P all [] = tt
each_all P all (x ∷ xs) = (all x, each_all P all xs)

-- a new answer marks its entry's reply
answered_marked : (s : Kept) (e : Entry) (m : Made) (sent : List Row) (b : Bool) → Fits s → Each MarksNone sent → AllMarked s
    → Each (IsMarked (s.journal ++ (sent ++ (if b then answer_of e m ∷ [] else []))))
    (if b then at_entry e.id (with_answer (raised e.answer_version) e.version (length s.journal + length sent)) s.replies else s.replies)
answered_marked s e m sent false f none h =
    replies_stay s.journal (sent ++ []) s.replies (all_unmarked s.replies (sent ++ []) (each_append MarksNone sent [] none tt)) h
answered_marked s e m sent true f none h =
    let row = answer_of e m in
    let rows = sent ++ row ∷ [] in
    let index = length s.journal + length sent in
    reply_marked s.journal rows e.id (with_answer (raised e.answer_version) e.version index) s.replies f.replies.rising
    (each_all (λ (p : Reply). nat_eq p.id e.id ≡ true → IsMarked (s.journal ++ rows) (with_answer (raised e.answer_version) e.version index p))
    (λ p is. last_here _ s.journal sent row [] index refl (eq-eqb e.id p.id (sym (eqb-true p.id e.id is))) refl) s.replies)
    (each_all (λ (p : Reply). nat_eq p.id e.id ≡ false → IsUnmarked rows p)
    (λ p other. unmarked-append p sent (row ∷ []) (unmarked p sent none) (none_any (marks_reply p) row (flip_false p.id e.id other))) s.replies) h

pub stepped_aged : (s : Kept) (o : Option Stale) → Fits s → GoesAged s (step_by s o).service
stepped_aged s None f = aged_same s
stepped_aged s (Some x) f =
    let e = x.entry in
    let m = new_record s x.rows e in
    let sent = sent_rows s e m in
    let sends = sends_settled s.registers e.slots (calls_of_made e.made) m.trace.calls (next_number s.registers) in
    let none = each_weaker IsSending MarksNone sending_none sent sends in
    record {
      calls = ages_noted s (step_by s (Some x)).service (sent ++ answer_rows e m) refl refl;
      replies = λ _ h. answered_marked s e m sent (is_new_answer e.made m) f none h;
    }
