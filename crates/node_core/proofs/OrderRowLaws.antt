-- No event but an order's writes an order into the journal.
use Rattle.std.proofs.Common.{◌≡◌, ℕ, suc, zero, Bool, true, false, not, List, [], ◌∷◌, ◌++◌, Option, Some, None, Result, Ok, Err, drop, length, nat_eq, nat_le, slice_get, refl, ap, ◌∙◌, append-nil, if◌then◌else◌}
use Rattle.std.proofs.lemmas.Bool.{cond_both}
use Rattle.std.proofs.lemmas.List.Elements.{filter-append}
use Rattle.lang_base.specs.Memory.{Unless}
use Rattle.lang_base.specs.Texts.{same_text}
use Rattle.lang_core.specs.Traces.{dead_trace}
use Rattle.lang_core.specs.declared.ids.Origin.{Origin}
use Rattle.lang_core.specs.declared.ids.Origin.TheVariants.{Outside, Call}
use Rattle.lang_core.specs.declared.inputs.Inputs.{Inputs}
use Rattle.lang_core.specs.declared.request.Request.{Request}
use Rattle.lang_core.specs.declared.trace.CallMade.{CallMade}
use Rattle.lang_core.specs.declared.trace.Trace.{Trace}
use Rattle.repair_messages.specs.declared.messages.AnswerMessage.{AnswerMessage}
use Rattle.repair_messages.specs.declared.messages.SetMessage.{SetMessage}
use Rattle.repair_messages.specs.declared.messages.TokenMessage.{TokenMessage}
use Rattle.repair_messages.specs.declared.posts.Post.{Post}
use Rattle.repair_messages.specs.declared.posts.Post.TheVariants.{Set, Token, Fetch}
use Rattle.journal_rows.specs.Words.{last_taken, noted_at}
use Rattle.journal_rows.specs.declared.callee.TookRow.{TookRow}
use Rattle.journal_rows.specs.declared.caller.NotedRow.{NotedRow}
use Rattle.journal_rows.specs.declared.row.Row.{Row}
use Rattle.journal_rows.specs.declared.row.Row.TheVariants.{Asked, Ordered}
use Rattle.call_registers.specs.Registers.{register, next_number, is_news, is_newer}
use Rattle.call_registers.specs.declared.register.Hold.{Hold}
use Rattle.call_registers.specs.declared.register.Register.{Register}
use Rattle.call_registers.specs.declared.register.Why.{Why}
use Rattle.flights.specs.Moves.{calls_in, next_move}
use Rattle.flights.specs.declared.flight.Flight.{Flight}
use Rattle.flights.specs.declared.flight.Move.{Move}
use Rattle.flights.specs.declared.flight.Move.TheVariants.{Commit, Name, Change}
use Rattle.service_events.specs.Arriving.{abandoned, accepted, admitted, answered_flight, arrives_or_known, by_version, failed_flight, is_for, is_new_to, known_by, live_answer_rows, new_flight, seen_live, told, unless_gone}
use Rattle.service_events.specs.Calls.{all_deleted, named, noted}
use Rattle.service_events.specs.Event.{event, is_lacking, Happens}
use Rattle.service_events.specs.Flying.{awaited, before_answer, call_or_none, change_rows, changed, changed_unsent, committed, completed, completing, flight_run, goes_on, live_answer, moved, named_unsent, surplus_rows, took_rows, waits, wanted_of, with_change, with_slot}
use Rattle.service_events.specs.Messages.{acked_again, acked_row, confirmed_row, created_row, fetched, fetched_row, hear_new, hear_rule, heard, held_back, held_where, hold_of, is_known, is_now, is_too_much, noted_row, posted, saw_ack_row, take_admitted, take_new, taken, taken_by, token_taken_where, took_row, was_confirmed_row}
use Rattle.service_events.specs.State.{Kept, After, after, answers, base, flight_of, is_crowded, is_heavy, next_id, or_else, unfolded}
use Rattle.service_events.specs.Steps.{answer_rows, new_record, sent_rows, Stale, stale_in, step_by, step_event}
use Rattle.service_events.specs.declared.answers.Arrived.{Arrived}
use Rattle.service_events.specs.declared.answers.PostReply.{PostReply}
use Rattle.service_events.specs.declared.answers.PostReply.TheVariants.{Acked as WasAcked, Confirmed as WasConfirmedBack, Given, Refused, Lost}
use Rattle.service_events.specs.declared.answers.Posted.TheVariants.{Saw, Knew, Held, Left}
use Rattle.service_events.specs.declared.event.Done.{Done}
use Rattle.service_events.specs.declared.event.Event.{Event}
use Rattle.service_events.specs.declared.event.Event.TheVariants as events
use Rattle.service_events.specs.declared.refusals.AnswerRefused.TheVariants.{Unknown}
use Rattle.service_events.specs.declared.refusals.ArriveRefused.{ArriveRefused}
use Rattle.service_events.specs.declared.refusals.CallRefused.TheVariants.{NoFlight}
use Rattle.service_events.proofs.AskedLemmas.{arrives_either, hear_either, posted_either, take_either, takes_either}
use Rattle.service_events.proofs.CallRowLemmas.{Each, each_append, each_weaker, IsSending, IsUnordered, sending_unordered}
use Rattle.service_events.proofs.FlightLaws.{sends_change}
use Rattle.service_events.proofs.KindLemmas.{sends_deleted, sends_settled, took_unordered}
use Rattle.node_core.specs.Orders.{is_order_row, ordered_rows}

-- ---- rows that are no orders

unordered_row : (row : Row) → IsUnordered row → is_order_row row ≡ false
unordered_row (Ordered o) h = absurd h
unordered_row row h = refl

pub unordered_none : (rows : List Row) → Each IsUnordered rows → ordered_rows rows ≡ []
unordered_none [] h = refl
unordered_none (row ∷ rows) h = (let none = unordered_row row h.0 in rw none (unordered_none rows h.1))

pub unordered_same : (journal rows : List Row) → Each IsUnordered rows → ordered_rows (journal ++ rows) ≡ ordered_rows journal
unordered_same journal rows h =
    filter-append is_order_row journal rows ∙ ap (λ zs. ordered_rows journal ++ zs) (unordered_none rows h) ∙ append-nil (ordered_rows journal)

-- ---- what a flight does after a run

-- what holds of each thing that it may do holds of what it does
module _ (P : After Arrived → Type 0) where
  either_by : (o : Option CallMade) (go : CallMade → After Arrived) (never : After Arrived) → ((call : CallMade) → P (go call)) → P never → P (call_or_none o go never)
  either_by None go never h k = k
  either_by (Some call) go never h k = h call

  completing_by : (s : Kept) (f : Flight) (ran : _) (move : Move) (again : Kept → Flight → After Arrived) → ((t : Trace) → P (committed s f t))
      → ((call : CallMade) → P (again (named_unsent s call) (with_slot (next_number s.registers) call f)))
      → ((slot : ℕ) (call : CallMade) → P (again (changed_unsent s f slot call) (with_change slot (next_number s.registers) call f)))
      → P (completing s f ran move again)
  completing_by s f ran Commit again commits names changes = commits _
  completing_by s f ran Name again commits names changes =
      either_by (wanted_of ran) (λ call. again (named_unsent s call) (with_slot (next_number s.registers) call f)) (committed s f _) names (commits _)
  completing_by s f ran (Change slot) again commits names changes =
      either_by (slice_get (calls_in ran) slot) (λ call. again (changed_unsent s f slot call) (with_change slot (next_number s.registers) call f)) (committed s f _)
      (changes slot) (commits _)

  moved_by : (s : Kept) (f : Flight) (ran : _) (move : Move) → ((t : Trace) → P (committed s f t))
      → ((call : CallMade)
      → P (waits (noted (named (next_number s.registers) call ∷ []) s) (with_slot (next_number s.registers) call f) (next_number s.registers) call))
      → ((slot : ℕ) (call : CallMade) → P (changed s f slot call)) → P (moved s f ran move)
  moved_by s f ran Commit commits names changes = commits _
  moved_by s f ran Name commits names changes =
      either_by (wanted_of ran)
      (λ call. waits (noted (named (next_number s.registers) call ∷ []) s) (with_slot (next_number s.registers) call f) (next_number s.registers) call) (committed s f _)
      names (commits _)
  moved_by s f ran (Change slot) commits names changes =
      either_by (slice_get (calls_in ran) slot) (λ call. changed s f slot call) (committed s f _) (changes slot) (commits _)

-- ---- what stays of a journal's orders

module _ (orders : List Row) where
  abbrev Has : Kept → Type 0
  Has s = ordered_rows s.journal ≡ orders

  by_rows : (s t : Kept) (rows : List Row) → t.journal ≡ s.journal ++ rows → Each IsUnordered rows → Has s → Has t
  by_rows s t rows is unordered h = ap ordered_rows is ∙ unordered_same s.journal rows unordered ∙ h

  by_sending : (s t : Kept) (rows : List Row) → t.journal ≡ s.journal ++ rows → Each IsSending rows → Has s → Has t
  by_sending s t rows is sending h = by_rows s t rows is (each_weaker IsSending IsUnordered sending_unordered rows sending) h

  -- ---- live requests

  committed_has : (s : Kept) (f : Flight) (t : Trace) → Has s → Has (committed s f t).service
  committed_has s f t h =
      let surplus = surplus_rows s f t in
      let took = took_rows f.origin f.request in
      let asks = Asked (record { id = next_id s; origin = f.origin; request = f.request; inputs = f.inputs; program = f.program.number }) in
      let deleted = each_weaker IsSending IsUnordered sending_unordered surplus (sends_deleted s.registers (drop (length t.calls) f.numbers) (drop (length t.calls) f.calls)) in
      by_rows s (committed s f t).service (before_answer s f t ++ live_answer s f t ∷ []) refl
      (each_append IsUnordered (before_answer s f t) (live_answer s f t ∷ [])
      (each_append IsUnordered surplus (asks ∷ took) deleted (tt, took_unordered f.origin f.request)) (tt, tt)) h

  named_has : (s : Kept) (call : CallMade) → Has s → Has (noted (named (next_number s.registers) call ∷ []) s)
  named_has s call h = (let rows = named (next_number s.registers) call ∷ [] in by_sending s (noted rows s) rows refl (tt, tt) h)

  change_has : (s : Kept) (f : Flight) (slot : ℕ) (call : CallMade) → Has s → Has (noted (change_rows s f slot call) s)
  change_has s f slot call h =
      let rows = change_rows s f slot call in
      by_sending s (noted rows s) rows refl (sends_change s (slice_get f.numbers slot) (slice_get f.calls slot) (next_number s.registers) call) h

  completing_has : (s : Kept) (f : Flight) (ran : _) (move : Move) (again : Kept → Flight → After Arrived) → ((t : Kept) (g : Flight) → Has t → Has (again t g).service)
      → Has s → Has (completing s f ran move again).service
  completing_has s f ran move again next h =
      completing_by (λ a. Has a.service) s f ran move again (λ t. committed_has s f t h)
      (λ call. next (named_unsent s call) (with_slot (next_number s.registers) call f) (named_has s call h))
      (λ slot call. next (changed_unsent s f slot call) (with_change slot (next_number s.registers) call f) (change_has s f slot call h))

  completed_has : (runs : ℕ) (s : Kept) (f : Flight) → Has s → Has (completed runs s f).service
  completed_has zero s f h = committed_has s f dead_trace h
  completed_has (suc runs) s f h = completing_has s f (flight_run s f) (next_move f (flight_run s f)) (completed runs) (completed_has runs) h

  changed_has : (s : Kept) (f : Flight) (slot : ℕ) (call : CallMade) → Has s → Has (changed s f slot call).service
  changed_has s f slot call h =
      cond_both (nat_le 3 f.changes) (completed 17 (changed_unsent s f slot call) (with_change slot (next_number s.registers) call f))
      (waits (noted (change_rows s f slot call) s) (with_change slot (next_number s.registers) call f) (next_number s.registers) call) (λ a. Has a.service)
      (λ _. completed_has 17 (changed_unsent s f slot call) (with_change slot (next_number s.registers) call f) (change_has s f slot call h))
      (λ _. change_has s f slot call h)

  moved_has : (s : Kept) (f : Flight) (ran : _) (move : Move) → Has s → Has (moved s f ran move).service
  moved_has s f ran move h =
      moved_by (λ a. Has a.service) s f ran move (λ t. committed_has s f t h) (λ call. named_has s call h) (λ slot call. changed_has s f slot call h)

  goes_on_has : (s : Kept) (f : Flight) → Has s → Has (goes_on s f).service
  unfolding goes_on
  goes_on_has s f h = moved_has s f (flight_run s f) (next_move f (flight_run s f)) h

  -- an arrival
  admitted_has : (s : Kept) (o : Origin) (q : Request) (i : Inputs) (n : Option ℕ) → Has s → Has (admitted s o q i n).service
  admitted_has s o q i (Some n) h = h
  admitted_has s o q i None h = goes_on_has s (new_flight s o q i) h

  known_has : (s : Kept) (c : List ℕ) (n : ℕ) (e : _) (m : Option _) → Has s → Has (known_by s c n e m).service
  known_has s c n e None h = h
  known_has s c n e (Some m) h = h

  arrives_has : (s : Kept) (c : List ℕ) (n : ℕ) (q : Request) (i : Inputs) (e : Option _) → Has s → Has (arrives_or_known s c n q i e).service
  arrives_has s c n q i (Some e) h = known_has s c n e _ h
  arrives_has s c n q i None h = admitted_has s (Call c n) q i (or_else (is_crowded s) (is_heavy s)) h

  version_has : (s : Kept) (version : ℕ) (desired : Option Request) (known : After (Result Arrived ArriveRefused)) → Has s → Has known.service
      → Has (by_version s version desired known).service
  version_has s version None known h k = h
  version_has s version (Some q) known h k = k

  gone_has : (s : Kept) (last : Option TookRow) (known : After (Result Arrived ArriveRefused)) → Has s → Has known.service → Has (unless_gone s last known).service
  gone_has s None known h k = k
  gone_has s (Some t) known h k = version_has s t.version t.desired known h k

  -- a call's answer
  seen_unordered : (a : AnswerMessage) (new : Bool) → Each IsUnordered (if new then seen_live a ∷ [] else [])
  seen_unordered a true = (tt, tt)
  seen_unordered a false = tt

  answered_has : (s : Kept) (id : ℕ) (a : AnswerMessage) (o : Option Flight) → Has s → Has (answered_flight s id a o).service
  answered_has s id a None h = h
  answered_has s id a (Some f) h =
      let t = noted (live_answer_rows s a) s in
      cond_both (is_for s a f) (accepted (goes_on t f)) (after s (Err (NoFlight id))) (λ a. Has a.service)
      (λ _. goes_on_has t f (by_rows s t (live_answer_rows s a) refl (tt, seen_unordered a (is_new_to a (register a.number s.registers))) h))
      (λ _. h)

  -- a call's failure
  failed_has : (s : Kept) (id number : ℕ) (why : Why) (o : Option Flight) → Has s → Has (failed_flight s id number why o).service
  failed_has s id number why None h = h
  failed_has s id number why (Some f) h =
      cond_both (nat_eq (awaited f) number) (accepted (goes_on (told number why s) f)) (after s (Err (NoFlight id))) (λ a. Has a.service)
      (λ _. goes_on_has (told number why s) f h) (λ _. h)

  -- an abandonment
  abandoned_has : (s : Kept) (o : Option Flight) → Has s → Has (abandoned s o).service
  abandoned_has s None h = h
  abandoned_has s (Some f) h =
      by_sending s (abandoned s (Some f)).service (all_deleted s.registers f.numbers f.calls) refl (sends_deleted s.registers f.numbers f.calls) h

  -- ---- a repair step

  one_or_none : (b : Bool) (row : Row) → IsUnordered row → Each IsUnordered (if b then row ∷ [] else [])
  one_or_none true row h = (h, tt)
  one_or_none false row h = tt

  stepped_has : (s : Kept) (o : Option Stale) → Has s → Has (step_by s o).service
  stepped_has s None h = h
  stepped_has s (Some x) h =
      let m = new_record s x.rows x.entry in
      let sent = sent_rows s x.entry m in
      let sends : Each IsSending sent = sends_settled _ _ _ _ _ in
      by_rows s (step_by s (Some x)).service (sent ++ answer_rows x.entry m) refl
      (each_append IsUnordered sent (answer_rows x.entry m) (each_weaker IsSending IsUnordered sending_unordered sent sends) (one_or_none _ _ tt)) h

  -- ---- messages

  taken_has : (s : Kept) (set : SetMessage) (i : Inputs) (e : Option _) (d : Option Request) → Has s → Has (taken_by s set i e d)
  taken_has s set i (Some e) d h = by_rows s (taken_by s set i (Some e) d) (took_row s set ∷ (acked_row set ∷ [])) refl (tt, (tt, tt)) h
  taken_has s set i None (Some q) h =
      by_rows s (taken_by s set i None (Some q)) (took_row s set ∷ (created_row s set q i ∷ (acked_row set ∷ []))) refl (tt, (tt, (tt, tt))) h
  taken_has s set i None None h = by_rows s (taken_by s set i None None) (took_row s set ∷ (acked_row set ∷ [])) refl (tt, (tt, tt)) h

  version_taken_has : (s : Kept) (set : SetMessage) (i : Inputs) (n : Option ℕ) → Has s → Has (take_admitted s set i n).service
  version_taken_has s set i (Some n) h = h
  version_taken_has s set i None h =
      cond_both (is_known s set) (after (acked_again s set) (Ok (taken set None))) (take_new s set i) (λ a. Has a.service)
      (λ _. by_rows s (acked_again s set) (acked_row set ∷ []) refl (tt, tt) h)
      (λ _. take_either s set i (λ a. Has a.service) (λ _. h) h (λ _. taken_has s set i _ set.desired h))

  -- a token
  heard_has : (s : Kept) (a : TokenMessage) (r : Register) (known new : Bool) → Has s
      → Has (if not known then after s (Err (Unknown a.number)) else (if new then hear_new s a r else after (noted (confirmed_row a ∷ []) s) (Ok (heard a None)))).service
  heard_has s a r false new h = h
  heard_has s a r true true h =
      let rows = noted_row (hear_rule s a r) a ∷ (confirmed_row a ∷ []) in
      hear_either s a r (λ a. Has a.service) h h (λ _. by_rows s (noted rows s) rows refl (tt, (tt, tt)) h)
  heard_has s a r true false h = by_rows s (noted (confirmed_row a ∷ []) s) (confirmed_row a ∷ []) refl (tt, tt) h

  token_has : (s : Kept) (a : TokenMessage) (o : Option Register) → Has s → Has (token_taken_where s a o).service
  token_has s a None h = h
  token_has s a (Some r) h = heard_has s a r (same_text r.dest a.callee) (is_news r a.answer_version) h

  -- what comes back of a post
  back_has : (s : Kept) (post : Post) (hold : Hold) → Has s → Has (held_back s post hold)
  back_has s (Set set) hold h = h
  back_has s (Token a) hold h = h
  back_has s (Fetch f) hold h = h

  held_has : (s : Kept) (post : Post) (hold : Option Hold) → Has s → Has (held_where s post hold).service
  held_has s post None h = h
  held_has s post (Some hold) h =
      cond_both (is_now s post) (after (held_back s post hold) (Ok Held)) (after s (Ok Left)) (λ a. Has a.service) (λ _. back_has s post hold h) (λ _. h)

  -- of a fetch, an answer
  fetched_has : (s : Kept) (a : AnswerMessage) (o : Option Register) (n : Option NotedRow) → Has s → Has (fetched s a o n).service
  fetched_has s a None n h = h
  fetched_has s a (Some r) None h = h
  fetched_has s a (Some r) (Some n) h =
      let rows = fetched_row a n ∷ [] in
      cond_both (is_newer r.answer a.answer_version) (after (noted rows s) (Ok Saw)) (after s (Ok Knew)) (λ a. Has a.service)
      (λ _. by_rows s (noted rows s) rows refl (tt, tt) h) (λ _. h)

  reply_has : (s : Kept) (post : Post) (reply : PostReply) → Has s → Has (posted s post reply).service
  reply_has s post (WasAcked ack) h = by_rows s (posted s post (WasAcked ack)).service (saw_ack_row ack ∷ []) refl (tt, tt) h
  reply_has s post (WasConfirmedBack c) h = by_rows s (posted s post (WasConfirmedBack c)).service (was_confirmed_row c ∷ []) refl (tt, tt) h
  reply_has s post (Given a) h = fetched_has s a (register a.number s.registers) (noted_at a.number a.answer_version s.journal) h
  reply_has s post (Refused word number) h = held_has s post (hold_of word number) h
  reply_has s post (Lost note) h = h

-- ---- all events

-- it is none of an operator
abbrev pub IsNoOrder : Event → Type 0
IsNoOrder (events.Order command token who i) = ⊥
IsNoOrder e = Unit {0}

event_has : (s : Kept) (e : Event) → IsNoOrder e → ordered_rows (event s e).service.journal ≡ ordered_rows s.journal
event_has s (events.Arrive Outside q i) none = admitted_has (ordered_rows s.journal) s Outside q i (or_else (is_crowded s) (is_heavy s)) refl
event_has s (events.Arrive (Call c n) q i) none =
    arrives_either s c n q i (λ a. ordered_rows a.service.journal ≡ ordered_rows s.journal) refl
    (gone_has (ordered_rows s.journal) s (last_taken c n s.journal) (arrives_or_known s c n q i _) refl (arrives_has (ordered_rows s.journal) s c n q i _ refl))
event_has s (events.CallAnswered id a) none = answered_has (ordered_rows s.journal) s id a (flight_of id s) refl
event_has s (events.CallFailed id number why) none = failed_has (ordered_rows s.journal) s id number why (flight_of id s) refl
event_has s (events.Abandon id) none = abandoned_has (ordered_rows s.journal) s (flight_of id s) refl
event_has s (events.Take set i) none =
    takes_either s set i (λ a. ordered_rows a.service.journal ≡ ordered_rows s.journal) refl (version_taken_has (ordered_rows s.journal) s set i (is_too_much s set) refl)
event_has s (events.TakeToken a) none = token_has (ordered_rows s.journal) s a (register a.number s.registers) refl
event_has s (events.Give f) none = refl
event_has s (events.NextPost dest) none = refl
event_has s (events.WritePost name) none = refl
event_has s (events.Posted post reply) none =
    posted_either s post reply (λ a. ordered_rows a.service.journal ≡ ordered_rows s.journal) refl (λ _ _. reply_has (ordered_rows s.journal) s post reply refl)
event_has s events.Step none = stepped_has (ordered_rows s.journal) s (stale_in (answers s) (base s) (unfolded s)) refl
event_has s (events.Order command token who i) none = absurd none

-- where a call makes it, or lacks memory for it, the journal has the orders that it had
pub event_orders_none : (s t : Kept) (e : Event) (d : Done) → IsNoOrder e → Happens e s d t → ordered_rows t.journal ≡ ordered_rows s.journal
event_orders_none s t e d none happens = by (is_lacking d) happens
  where
    by : (lacking : Bool) → Unless lacking (after t d ≡ event s e) (t ≡ s) → ordered_rows t.journal ≡ ordered_rows s.journal
    by true same = ap (λ (k : Kept). ordered_rows k.journal) same
    by false is = ap (λ (a : After Done). ordered_rows a.service.journal) is ∙ event_has s e none

-- nor does a repair step write one
pub step_orders_none : (s : Kept) → ordered_rows (step_event s).service.journal ≡ ordered_rows s.journal
step_orders_none s = event_has s events.Step tt
