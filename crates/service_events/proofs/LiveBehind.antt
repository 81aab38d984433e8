-- The events of live requests go on behind the horizon: their rows are about calls of the flight, and about new ones.
use Rattle.std.proofs.Common.{◌≡◌, ℕ, zero, suc, ◌+◌, ◌<◌, ◌≤◌, Bool, true, false, cond, List, [], ◌∷◌, ◌++◌, Option, Some, None, Result, Err, length, drop, set, slice_get, nat_le, nat_eq, refl, sym, ap, ◌∙◌, subst, arith, append-nil, length-append, ne_eqb, max, fold, inl, inr, eqb-true, leb-true, leb-false, take}
use Rattle.std.proofs.lemmas.Bool.{cond_both, cases_Bool, eqb-false}
use Rattle.lang_core.specs.Traces.{dead_trace}
use Rattle.lang_core.specs.declared.ids.Origin.{Origin}
use Rattle.lang_core.specs.declared.ids.Origin.TheVariants.{Outside, Call}
use Rattle.lang_core.specs.declared.inputs.Inputs.{Inputs}
use Rattle.lang_core.specs.declared.request.Request.{Request}
use Rattle.lang_core.specs.declared.trace.CallMade.{CallMade}
use Rattle.lang_core.specs.declared.trace.Trace.{Trace}
use Rattle.handler_run.specs.declared.state.Ran.{Ran}
use Rattle.request_log.specs.Entries.{find_call}
use Rattle.request_log.specs.Records.{Record, record_of}
use Rattle.request_log.specs.declared.entry.Entry.{Entry}
use Rattle.local_repair.specs.Alone.{trace_or_dead}
use Rattle.repair_messages.specs.declared.messages.AnswerMessage.{AnswerMessage}
use Rattle.journal_rows.specs.Words.{last_taken}
use Rattle.journal_rows.specs.declared.callee.TookRow.{TookRow}
use Rattle.journal_rows.specs.declared.row.Row.{Row}
use Rattle.journal_rows.specs.declared.row.Row.TheVariants.{Asked, Sent, SawAck, Noted, SawAnswer}
use Rattle.call_registers.specs.Changes.{change}
use Rattle.call_registers.specs.Registers.{at_number, next_number, register, with_cause, has_number, sent_anew, with_ack, with_answer, with_note}
use Rattle.call_registers.specs.declared.register.Register.{Register}
use Rattle.call_registers.specs.declared.register.Why.{Why}
use Rattle.call_registers.specs.declared.register.Why.TheVariants.{Changes}
use Rattle.journal_rows.specs.declared.caller.SentRow.{SentRow}
use Rattle.flights.specs.Moves.{calls_in, next_move}
use Rattle.flights.specs.declared.flight.Flight.{Flight}
use Rattle.flights.specs.declared.flight.Move.{Move}
use Rattle.flights.specs.declared.flight.Move.TheVariants.{Commit, Name, Change}
use Rattle.service_events.specs.Arriving.{accepted, new_flight, admitted, arrives_or_known, known_by, by_version, unless_gone, is_for, live_answer_rows, is_new_to, seen_live, answered_flight, told, failed_flight, abandoned, answers_register}
use Rattle.service_events.specs.Calls.{after_row, after_rows, all_deleted, first_sent, named, noted, put_sent, seen_answer}
use Rattle.service_events.specs.Fits.{count}
use Rattle.service_events.specs.Flying.{flight_run, awaited, before_answer, committed, committed_entry, live_answer, surplus_rows, took_rows, with_slot, with_change, deletion, change_rows, waits, wanted_of, named_unsent, changed_unsent, completing, completed, changed, moved, goes_on}
use Rattle.service_events.specs.State.{Kept, After, after, or_else, is_crowded, is_heavy, has_flight, flight_of, next_id}
use Rattle.service_events.specs.declared.answers.Arrived.{Arrived}
use Rattle.service_events.specs.declared.refusals.ArriveRefused.{ArriveRefused}
use Rattle.service_events.specs.declared.refusals.CallRefused.{CallRefused}
use Rattle.service_events.proofs.BehindLaws.{GoesBehind, behind_same, behind_then}
use Rattle.service_events.proofs.BehindLemmas.{FoldsNone, IsPastNumber, LeavesCall, both_left}
use Rattle.service_events.proofs.CallRowLemmas.{Each, each_append}
use Rattle.service_events.proofs.FlightLemmas.{each_found}
use Rattle.service_events.proofs.HorizonLemmas.{push_stays}
use Rattle.service_events.proofs.LiveEntryLaws.{call_keeps}
use Rattle.service_events.proofs.PlaceLemmas.{not_counted}
use Rattle.service_events.proofs.OwnLemmas.{length_named}

-- ---- lists

-- none of these numbers is this one
abbrev pub AreNot : ℕ → List ℕ → Type 0
AreNot n ms = Each (λ m. nat_eq m n ≡ false) ms

each_drop_first : {X : Type 0} (P : X → Type 0) (k : ℕ) (xs : List X) → Each P xs → Each P (drop k xs)
each_drop_first P zero xs h = h
each_drop_first P (suc k) [] h = tt
each_drop_first P (suc k) (x ∷ xs) h = each_drop_first P k xs h.1

each_set : {X : Type 0} (P : X → Type 0) (xs : List X) (k : ℕ) (y : X) → Each P xs → P y → Each P (set xs k y)
each_set P [] k y h p = tt
each_set P (x ∷ xs) zero y h p = (p, h.1)
each_set P (x ∷ xs) (suc k) y h p = (h.0, each_set P xs k y h.1 p)

each_got : {X : Type 0} (P : X → Type 0) (xs : List X) (k : ℕ) (x : X) → Each P xs → slice_get xs k ≡ Some x → P x
each_got P [] k x h e = cc
each_got P (y ∷ ys) zero x h e = (let same : y ≡ x = cc in subst P same h.0)
each_got P (y ∷ ys) (suc k) x h e = each_got P ys k x h.1 e

-- ---- there are never fewer registers

change_longer : {X : Type 0} (p : X → Bool) (f : X → X) (xs : List X) → length xs ≤ length (change p f xs)
change_longer p f [] = omega arith
change_longer p f (x ∷ xs) =
    cond_both (p x) (f x ∷ xs) (x ∷ change p f xs) (λ l. length (x ∷ xs) ≤ length l) (λ _. omega arith) (λ _. let rest = change_longer p f xs in omega (arith, rest))

first_longer : (at : ℕ) (s : SentRow) (d : Option Request) (rs : List Register) → length rs ≤ length (first_sent at s d rs)
first_longer at s None rs = omega arith
first_longer at s (Some q) rs = (let one = length_named s.dest q at rs in omega (arith, one))

put_longer : (at : ℕ) (s : SentRow) (o : Option Register) (rs : List Register) → length rs ≤ length (put_sent at s o rs)
put_longer at s (Some r) rs = change_longer (has_number s.number) (sent_anew s.desired at) rs
put_longer at s None rs = first_longer at s s.desired rs

row_longer : (at : ℕ) (rs : List Register) (row : Row) → length rs ≤ length (after_row at rs row)
row_longer at rs (Sent s) = put_longer at s (register s.number rs) rs
row_longer at rs (SawAck a) = change_longer (has_number a.number) (with_ack a.version) rs
row_longer at rs (Noted n) = change_longer (has_number n.number) (with_note n.answer_version n.who n.rule at) rs
row_longer at rs (SawAnswer a) = change_longer (has_number a.number) (with_answer (seen_answer a)) rs
row_longer at rs row = omega arith

rows_longer : (at : ℕ) (rs : List Register) (rows : List Row) → length rs ≤ length (after_rows at rs rows)
rows_longer at rs [] = omega arith
rows_longer at rs (row ∷ rows) =
    (let one = row_longer at rs row in let more = rows_longer (at + 1) (after_row at rs row) rows in omega (arith, one, more))

-- ---- rows about calls of a flight

pub deleted_none : (rs : List Register) (ns : List ℕ) (cs : List CallMade) → Each FoldsNone (all_deleted rs ns cs)
deleted_none rs [] cs = tt
deleted_none rs (n ∷ ns) [] = tt
deleted_none rs (n ∷ ns) (c ∷ cs) = (tt, deleted_none rs ns cs)

pub deleted_leaves : (n : ℕ) (rs : List Register) (ns : List ℕ) (cs : List CallMade) → AreNot n ns → Each (LeavesCall n) (all_deleted rs ns cs)
deleted_leaves n rs [] cs h = tt
deleted_leaves n rs (m ∷ ms) [] h = tt
deleted_leaves n rs (m ∷ ms) (c ∷ cs) h = (h.0, deleted_leaves n rs ms cs h.1)

took_none : (o : Origin) (q : Request) → Each FoldsNone (took_rows o q)
took_none Outside q = tt
took_none (Call c n) q = (tt, tt)

took_leaves : (n : ℕ) (o : Origin) (q : Request) → Each (LeavesCall n) (took_rows o q)
took_leaves n Outside q = tt
took_leaves n (Call c m) q = (tt, tt)

deletion_none : (s : Kept) (n : Option ℕ) (c : Option CallMade) → Each FoldsNone (deletion s n c)
deletion_none s (Some n) (Some c) = (tt, tt)
deletion_none s (Some n) None = tt
deletion_none s None c = tt

deletion_leaves : (n : ℕ) (s : Kept) (m : Option ℕ) (c : Option CallMade) → ((k : ℕ) → m ≡ Some k → nat_eq k n ≡ false) → Each (LeavesCall n) (deletion s m c)
deletion_leaves n s (Some m) (Some c) h = (h m refl, tt)
deletion_leaves n s (Some m) None h = tt
deletion_leaves n s None c h = tt

greater_is_not : (n a b : ℕ) → nat_eq a n ≡ false → nat_eq b n ≡ false → nat_eq (max a b) n ≡ false
greater_is_not n a b first second = elim (cases_Bool (nat_le a b)) [
  | inl is ↦ (let less = leb-true a b is in ne_eqb (max a b) n (λ same. eqb-false b n second (omega (arith, less, same))))
  | inr isnt ↦ (let less = leb-false a b isnt in ne_eqb (max a b) n (λ same. eqb-false a n first (omega (arith, less, same))))
]

greatest_is_not : (n : ℕ) (ms : List ℕ) (most : ℕ) → nat_eq most n ≡ false → AreNot n ms → nat_eq (fold max most ms) n ≡ false
greatest_is_not n [] most first h = first
greatest_is_not n (m ∷ ms) most first h = greatest_is_not n ms (max most m) (greater_is_not n most m first h.0) h.1

pub above_is_not : (n next : ℕ) → n < next → nat_eq next n ≡ false
above_is_not n next less = ne_eqb next n (λ same. omega (arith, less, same))

-- ---- a flight that goes on

-- from this service on, by rows that leave the calls of folded entries, and the flight has none of these
pub record CanGoOn (start s : Kept) (f : Flight) : Type 0 where
  pub behind : GoesBehind start s
  pub apart : (n : ℕ) → IsPastNumber start n → AreNot n f.numbers
  pub below : (n : ℕ) → IsPastNumber start n → n ≤ length s.registers

abbrev pub LeavesBehind : {A : Type 0} → Kept → After A → Type 0
LeavesBehind start a = GoesBehind start a.service

module _ (start : Kept) where
  committed_behind : (s : Kept) (f : Flight) (t : Trace) → CanGoOn start s f → LeavesBehind start (committed s f t)
  committed_behind s f t c =
      let x = committed_entry s f t in
      let k = length t.calls in
      let grown = length-append s.entries (x ∷ []) in
      let few = c.behind.within in
      let asking : Row = Asked (record { id = next_id s; origin = f.origin; request = f.request; inputs = f.inputs; program = f.program.number }) in
      behind_then start s (committed s f t).service (before_answer s f t ++ live_answer s f t ∷ []) c.behind refl
      (each_append FoldsNone (before_answer s f t) (live_answer s f t ∷ [])
      (each_append FoldsNone (surplus_rows s f t) (asking ∷ took_rows f.origin f.request) (deleted_none s.registers (drop k f.numbers) (drop k f.calls)) (tt, took_none f.origin f.request))
      (tt, tt))
      (λ n p. each_append (LeavesCall n) (before_answer s f t) (live_answer s f t ∷ [])
      (each_append (LeavesCall n) (surplus_rows s f t) (asking ∷ took_rows f.origin f.request)
      (deleted_leaves n s.registers (drop k f.numbers) (drop k f.calls) (each_drop_first (λ m. nat_eq m n ≡ false) k f.numbers (c.apart n p))) (tt, took_leaves n f.origin f.request))
      (tt, tt))
      (push_stays s x few) refl refl (omega (arith, few, grown)) refl

  -- a call is named, or another one stands at a slot
  module _ (s : Kept) (f : Flight) (c : CanGoOn start s f) where
    next_is_not : (n : ℕ) → IsPastNumber start n → nat_eq (next_number s.registers) n ≡ false
    next_is_not n p = (let low = c.below n p in above_is_not n (next_number s.registers) (omega (arith, low)))

    named_goes : (t : Kept) (call : CallMade) → t.journal ≡ s.journal ++ named (next_number s.registers) call ∷ [] → t.entries ≡ s.entries → t.base ≡ s.base → t.horizon ≡ s.horizon
        → t.setting ≡ s.setting → GoesBehind start t
    named_goes t call is entries base horizon setting =
        let few = c.behind.within in
        let many = ap length entries in
        behind_then start s t (named (next_number s.registers) call ∷ []) c.behind is (tt, tt) (λ n p. (next_is_not n p, tt)) (λ i. take (horizon i) (entries i)) base horizon
        (omega (arith, few, many, horizon)) setting

    pub change_none : (slot : ℕ) (call : CallMade) → Each FoldsNone (change_rows s f slot call)
    change_none slot call =
        each_append FoldsNone (deletion s (slice_get f.numbers slot) (slice_get f.calls slot)) (named (next_number s.registers) call ∷ [])
        (deletion_none s (slice_get f.numbers slot) (slice_get f.calls slot)) (tt, tt)

    pub change_leaves : (slot : ℕ) (call : CallMade) (n : ℕ) → IsPastNumber start n → Each (LeavesCall n) (change_rows s f slot call)
    change_leaves slot call n p =
        each_append (LeavesCall n) (deletion s (slice_get f.numbers slot) (slice_get f.calls slot)) (named (next_number s.registers) call ∷ [])
        (deletion_leaves n s (slice_get f.numbers slot) (slice_get f.calls slot) (λ k at. each_got (λ m. nat_eq m n ≡ false) f.numbers slot k (c.apart n p) at)) (next_is_not n p, tt)

    changed_goes : (t : Kept) (slot : ℕ) (call : CallMade) → t.journal ≡ s.journal ++ change_rows s f slot call → t.entries ≡ s.entries → t.base ≡ s.base → t.horizon ≡ s.horizon
        → t.setting ≡ s.setting → GoesBehind start t
    changed_goes t slot call is entries base horizon setting =
        let few = c.behind.within in
        let many = ap length entries in
        behind_then start s t (change_rows s f slot call) c.behind is (change_none slot call) (change_leaves slot call) (λ i. take (horizon i) (entries i)) base horizon
        (omega (arith, few, many, horizon)) setting

    unsent_longer : (rows : List Row) (n : ℕ) → length s.registers ≤ length (at_number n (with_cause Changes) (after_rows (length s.journal) s.registers rows))
    unsent_longer rows n =
        let more = rows_longer (length s.journal) s.registers rows in
        let same = change_longer (has_number n) (with_cause Changes) (after_rows (length s.journal) s.registers rows) in
        omega (arith, more, same)

    named_can : (call : CallMade) → CanGoOn start (named_unsent s call) (with_slot (next_number s.registers) call f)
    named_can call = record {
      behind = named_goes (named_unsent s call) call refl refl refl refl refl;
      apart = λ n p. each_append (λ m. nat_eq m n ≡ false) f.numbers (next_number s.registers ∷ []) (c.apart n p) (next_is_not n p, tt);
      below = λ n p. (let low = c.below n p in let more = unsent_longer (named (next_number s.registers) call ∷ []) (next_number s.registers) in omega (arith, low, more));
    }

    changed_can : (slot : ℕ) (call : CallMade) → CanGoOn start (changed_unsent s f slot call) (with_change slot (next_number s.registers) call f)
    changed_can slot call = record {
      behind = changed_goes (changed_unsent s f slot call) slot call refl refl refl refl refl;
      apart = λ n p. each_set (λ m. nat_eq m n ≡ false) f.numbers slot (next_number s.registers) (c.apart n p) (next_is_not n p);
      below = λ n p. (let low = c.below n p in let more = unsent_longer (change_rows s f slot call) (next_number s.registers) in omega (arith, low, more));
    }

  completing_behind : (s : Kept) (f : Flight) (ran : Ran) (move : Move) (again : Kept → Flight → After Arrived)
      → ((s' : Kept) (f' : Flight) → CanGoOn start s' f' → LeavesBehind start (again s' f')) → CanGoOn start s f → LeavesBehind start (completing s f ran move again)
  completing_behind s f ran Commit again keeps c = committed_behind s f (trace_or_dead ran) c
  completing_behind s f ran Name again keeps c =
      call_keeps (LeavesBehind start) (wanted_of ran) (λ call. again (named_unsent s call) (with_slot (next_number s.registers) call f)) (committed s f (trace_or_dead ran))
      (λ call. keeps (named_unsent s call) (with_slot (next_number s.registers) call f) (named_can s f c call)) (committed_behind s f (trace_or_dead ran) c)
  completing_behind s f ran (Change slot) again keeps c =
      call_keeps (LeavesBehind start) (slice_get (calls_in ran) slot) (λ call. again (changed_unsent s f slot call) (with_change slot (next_number s.registers) call f)) (committed s f (trace_or_dead ran))
      (λ call. keeps (changed_unsent s f slot call) (with_change slot (next_number s.registers) call f) (changed_can s f c slot call)) (committed_behind s f (trace_or_dead ran) c)

  completed_behind : (runs : ℕ) (s : Kept) (f : Flight) → CanGoOn start s f → LeavesBehind start (completed runs s f)
  completed_behind zero s f c = committed_behind s f dead_trace c
  completed_behind (suc runs) s f c =
      completing_behind s f (flight_run s f) (next_move f (flight_run s f)) (completed runs) (λ s' f' c'. completed_behind runs s' f' c') c

  changed_behind : (s : Kept) (f : Flight) (slot : ℕ) (call : CallMade) → CanGoOn start s f → LeavesBehind start (changed s f slot call)
  changed_behind s f slot call c =
      cond_both (nat_le 3 f.changes) (completed 17 (changed_unsent s f slot call) (with_change slot (next_number s.registers) call f))
      (waits (noted (change_rows s f slot call) s) (with_change slot (next_number s.registers) call f) (next_number s.registers) call) (LeavesBehind start)
      (λ _. completed_behind 17 (changed_unsent s f slot call) (with_change slot (next_number s.registers) call f) (changed_can s f c slot call))
      (λ _. changed_goes s f c (waits (noted (change_rows s f slot call) s) (with_change slot (next_number s.registers) call f) (next_number s.registers) call).service slot call refl refl refl refl refl)

  moved_behind : (s : Kept) (f : Flight) (ran : Ran) (move : Move) → CanGoOn start s f → LeavesBehind start (moved s f ran move)
  moved_behind s f ran Commit c = committed_behind s f (trace_or_dead ran) c
  moved_behind s f ran Name c =
      call_keeps (LeavesBehind start) (wanted_of ran)
      (λ call. waits (noted (named (next_number s.registers) call ∷ []) s) (with_slot (next_number s.registers) call f) (next_number s.registers) call) (committed s f (trace_or_dead ran))
      (λ call. named_goes s f c (waits (noted (named (next_number s.registers) call ∷ []) s) (with_slot (next_number s.registers) call f) (next_number s.registers) call).service call refl refl refl refl refl)
      (committed_behind s f (trace_or_dead ran) c)
  moved_behind s f ran (Change slot) c =
      call_keeps (LeavesBehind start) (slice_get (calls_in ran) slot) (λ call. changed s f slot call) (committed s f (trace_or_dead ran))
      (λ call. changed_behind s f slot call c) (committed_behind s f (trace_or_dead ran) c)

  goes_on_behind : (s : Kept) (f : Flight) → CanGoOn start s f → LeavesBehind start (goes_on s f)
  unfolding goes_on
  goes_on_behind s f c = moved_behind s f (flight_run s f) (next_move f (flight_run s f)) c

-- ---- the events

module _ (s : Kept) (few : s.horizon ≤ length s.entries) where
  same : GoesBehind s s
  same = behind_same s few

  pub admitted_behind : (o : Origin) (q : Request) (i : Inputs) (full : Option ℕ) → LeavesBehind s (admitted s o q i full)
  admitted_behind o q i (Some n) = same
  admitted_behind o q i None = goes_on_behind s s (new_flight s o q i) (record { behind = same; apart = λ n p. tt; below = λ n p. p.within })

  known_behind : (c : List ℕ) (n : ℕ) (e : Entry) (made : Option Record) → LeavesBehind s (known_by s c n e made)
  known_behind c n e None = same
  known_behind c n e (Some m) = same

  or_known_behind : (c : List ℕ) (n : ℕ) (q : Request) (i : Inputs) (o : Option Entry) → LeavesBehind s (arrives_or_known s c n q i o)
  or_known_behind c n q i None = admitted_behind (Call c n) q i (or_else (is_crowded s) (is_heavy s))
  or_known_behind c n q i (Some e) = known_behind c n e (record_of e)

  by_version_behind : (version : ℕ) (desired : Option Request) (known : After (Result Arrived ArriveRefused)) → LeavesBehind s known → LeavesBehind s (by_version s version desired known)
  by_version_behind version None known keeps = same
  by_version_behind version (Some q) known keeps = keeps

  unless_gone_behind : (last : Option TookRow) (known : After (Result Arrived ArriveRefused)) → LeavesBehind s known → LeavesBehind s (unless_gone s last known)
  unless_gone_behind None known keeps = keeps
  unless_gone_behind (Some t) known keeps = by_version_behind t.version t.desired known keeps

  pub call_behind : (c : List ℕ) (n : ℕ) (q : Request) (i : Inputs)
      → LeavesBehind s (unless_gone s (last_taken c n s.journal) (arrives_or_known s c n q i (find_call (Call c n) s.entries)))
  call_behind c n q i =
      let entry = find_call (Call c n) s.entries in
      unless_gone_behind (last_taken c n s.journal) (arrives_or_known s c n q i entry) (or_known_behind c n q i entry)

  flight_apart : (id : ℕ) (f : Flight) → flight_of id s ≡ Some f → (n : ℕ) → IsPastNumber s n → AreNot n f.numbers
  flight_apart id f found n p = not_counted n f.numbers (each_found (λ (g : Flight). count n g.numbers ≡ 0) (has_flight id) s.flights f found p.flying)

  -- what a flight awaits is a call of its own
  awaited_apart : (id number : ℕ) (f : Flight) → flight_of id s ≡ Some f → nat_eq (awaited f) number ≡ true → (n : ℕ) → IsPastNumber s n → nat_eq number n ≡ false
  awaited_apart id number f found own n p =
      let first : nat_eq 0 n ≡ false = (let low = p.positive in ne_eqb 0 n (λ same. omega (arith, low, same))) in
      ap (λ k. nat_eq k n) (sym (eqb-true (awaited f) number own)) ∙ greatest_is_not n f.numbers 0 first (flight_apart id f found n p)

  live_none : (a : AnswerMessage) (new : Bool) → Each FoldsNone (cond new (seen_live a ∷ []) [])
  live_none a true = (tt, tt)
  live_none a false = tt

  live_leaves : (a : AnswerMessage) (new : Bool) (n : ℕ) → nat_eq a.number n ≡ false → Each (LeavesCall n) (cond new (seen_live a ∷ []) [])
  live_leaves a true n other = (other, tt)
  live_leaves a false n other = tt

  pub answered_behind : (id : ℕ) (a : AnswerMessage) (o : Option Flight) → flight_of id s ≡ o → LeavesBehind s (answered_flight s id a o)
  answered_behind id a None is = same
  answered_behind id a (Some f) is =
      cond_both (is_for s a f) (accepted (goes_on (noted (live_answer_rows s a) s) f)) (after s (Err (CallRefused.NoFlight id))) (LeavesBehind s)
      (λ own. goes_on_behind s (noted (live_answer_rows s a) s) f (record {
        behind = behind_then s s (noted (live_answer_rows s a) s) (live_answer_rows s a) same refl (tt, live_none a (is_new_to a (register a.number s.registers)))
            (λ n p. (tt, live_leaves a (is_new_to a (register a.number s.registers)) n (awaited_apart id a.number f is (both_left (nat_eq (awaited f) a.number) (answers_register a (register a.number s.registers)) own) n p)))
            refl refl refl few refl;
        apart = flight_apart id f is;
        below = λ n p. (let low = p.within in let more = rows_longer (length s.journal) s.registers (live_answer_rows s a) in omega (arith, low, more));
      })) (λ _. same)

  pub failed_behind : (id number : ℕ) (why : Why) (o : Option Flight) → flight_of id s ≡ o → LeavesBehind s (failed_flight s id number why o)
  failed_behind id number why None is = same
  failed_behind id number why (Some f) is =
      cond_both (nat_eq (awaited f) number) (accepted (goes_on (told number why s) f)) (after s (Err (CallRefused.NoFlight id))) (LeavesBehind s)
      (λ own. goes_on_behind s (told number why s) f (record {
        behind = behind_then s s (told number why s) [] same (sym (append-nil s.journal)) tt (λ n p. tt) refl refl refl few refl;
        apart = flight_apart id f is;
        below = λ n p. (let low = p.within in let more = change_longer (has_number number) (with_cause why) s.registers in omega (arith, low, more));
      })) (λ _. same)

  pub abandoned_behind : (id : ℕ) (o : Option Flight) → flight_of id s ≡ o → LeavesBehind s (abandoned s o)
  abandoned_behind id None is = same
  abandoned_behind id (Some f) is =
      behind_then s s (abandoned s (Some f)).service (all_deleted s.registers f.numbers f.calls) same refl (deleted_none s.registers f.numbers f.calls)
      (λ n p. deleted_leaves n s.registers f.numbers f.calls (flight_apart id f is n p)) refl refl refl few refl
