-- Each event keeps that each repair in the journal was allowed by the service's rules, as things and these rules stood before it.
use Rattle.std.proofs.Common.{◌≡◌, ℕ, suc, zero, Bool, true, false, not, List, [], ◌∷◌, ◌++◌, Option, Some, None, IsSomeAnd, Result, Ok, Err, drop, length, nat_eq, nat_le, option_map, slice_get, refl, sym, ap, ◌∙◌, subst, if◌then◌else◌, cond}
use Rattle.std.proofs.lemmas.Bool.{cond_both}
use Rattle.lang_base.specs.Texts.{same_text}
use Rattle.lang_core.specs.Traces.{dead_trace}
use Rattle.lang_core.specs.declared.ids.Origin.{Origin}
use Rattle.lang_core.specs.declared.ids.Origin.TheVariants.{Outside, Call}
use Rattle.lang_core.specs.declared.inputs.Inputs.{Inputs}
use Rattle.lang_core.specs.declared.request.Request.{Request}
use Rattle.lang_core.specs.declared.setting.Setting.{Setting}
use Rattle.lang_core.specs.declared.trace.CallMade.{CallMade}
use Rattle.lang_core.specs.declared.trace.Trace.{Trace}
use Rattle.handler_run.specs.declared.state.Ran.{Ran}
use Rattle.request_log.specs.Entries.{find_call}
use Rattle.request_log.specs.Records.{Record, record_of}
use Rattle.request_log.specs.declared.entry.Entry.{Entry}
use Rattle.request_log.specs.declared.entry.Made.{Made}
use Rattle.local_repair.specs.Alone.{trace_or_dead}
use Rattle.local_repair.specs.Steps.{calls_of_made, is_new_answer, raised}
use Rattle.repair_messages.specs.declared.messages.AnswerMessage.{AnswerMessage}
use Rattle.repair_messages.specs.declared.messages.SetMessage.{SetMessage}
use Rattle.repair_messages.specs.declared.messages.TokenMessage.{TokenMessage}
use Rattle.repair_messages.specs.declared.posts.Post.{Post}
use Rattle.repair_messages.specs.declared.posts.Post.TheVariants.{Set, Token, Fetch}
use Rattle.repair_messages.specs.declared.posts.PostName.TheVariants.{Call as OfCall, Reply as OfReply, Fetch as OfFetch}
use Rattle.authorise_rules.specs.Deciding.{decision}
use Rattle.authorise_rules.specs.declared.asked.Decision.{Decision}
use Rattle.authorise_rules.specs.declared.asked.Decision.TheVariants.{Allow, Deny}
use Rattle.authorise_rules.specs.Given.{GivenRules}
use Rattle.authorise_rules.specs.declared.rule.Rule.{Rule}
use Rattle.journal_rows.specs.Programs.{rules_now}
use Rattle.journal_rows.specs.Words.{last_sent, last_taken, noted_at, ordered}
use Rattle.journal_rows.specs.declared.callee.TookRow.{TookRow}
use Rattle.journal_rows.specs.declared.caller.NotedRow.{NotedRow}
use Rattle.journal_rows.specs.declared.caller.SentRow.{SentRow}
use Rattle.journal_rows.specs.declared.orders.Command.{Command}
use Rattle.journal_rows.specs.declared.orders.Command.TheVariants.{Cancel, Restore, Replace, Create, Retry, Fold, Deploy, Correct, Rules}
use Rattle.journal_rows.specs.declared.orders.OrderedRow.{OrderedRow}
use Rattle.journal_rows.specs.declared.row.Row.{Row}
use Rattle.journal_rows.specs.declared.row.Row.TheVariants.{Asked, Answered, Sent, Ordered as OrderedAs}
use Rattle.call_registers.specs.Registers.{register, next_number, is_news, is_newer}
use Rattle.call_registers.specs.declared.register.Hold.{Hold}
use Rattle.call_registers.specs.declared.register.Register.{Register}
use Rattle.call_registers.specs.declared.register.Why.{Why}
use Rattle.flights.specs.Moves.{calls_in, next_move}
use Rattle.flights.specs.declared.flight.Flight.{Flight}
use Rattle.flights.specs.declared.flight.Move.{Move}
use Rattle.flights.specs.declared.flight.Move.TheVariants.{Commit, Name, Change}
use Rattle.service_events.specs.Allowed.{Allowed, AllowedOn, AllowedThen, IsAllowed}
use Rattle.service_events.specs.Arriving.{abandoned, accepted, admitted, answered_flight, arrives_or_known, by_version, failed_flight, is_for, is_new_to, known_by, live_answer_rows, new_flight, seen_live, told, unless_gone}
use Rattle.service_events.specs.Calls.{all_deleted, named, noted}
use Rattle.service_events.specs.Event.{event}
use Rattle.service_events.specs.Fits.{EachAfter, Fits, sent_by}
use Rattle.service_events.specs.Flying.{awaited, before_answer, call_or_none, change_rows, changed, changed_unsent, committed, completed, completing, flight_run, goes_on, live_answer, moved, named_unsent, surplus_rows, took_rows, waits, wanted_of, with_change, with_slot}
use Rattle.service_events.specs.Messages.{acked_again, acked_row, created_row, token_taken_where, fetched_row, fetched, confirmed_row, hear_decision, hear_denied, hear_allowed, hear_new, hear_rule, heard, held_back, held_where, hold_of, is_known, is_now, is_too_much, origin_of, posted, saw_ack_row, noted_row, take_admitted, take_allowed, take_decision, take_denied, take_new, take_rule, taken, taken_by, took_row, was_confirmed_row, is_past_call, take_unless_past}
use Rattle.service_events.specs.Orders.{about, asked_rows, carried_out, is_too_much as is_too_much_for, misnamed, order_by, order_decision, order_rows, order_rule, order_where, original, refused, repaired, request_put, subject, unless_allowed, unless_quiet}
use Rattle.service_events.specs.Questions.{answer_question, command_question, is_denied, rule_of, version_question}
use Rattle.service_events.specs.State.{Kept, After, after, answers, base, flight_of, fresh, is_crowded, is_heavy, next_id, or_else, unfolded, folded}
use Rattle.service_events.specs.Steps.{answer_rows, new_record, sent_rows, Stale, stale_in, step_by}
use Rattle.service_events.specs.declared.answers.Arrived.{Arrived}
use Rattle.service_events.specs.declared.event.Event.{Event}
use Rattle.service_events.specs.declared.event.Event.TheVariants as events
use Rattle.service_events.specs.declared.answers.PostReply.{PostReply}
use Rattle.service_events.specs.declared.answers.PostReply.TheVariants.{Acked as WasAcked, Confirmed as WasConfirmedBack, Given, Refused, Lost}
use Rattle.service_events.specs.declared.answers.Posted.TheVariants.{Saw, Knew, Held, Left}
use Rattle.service_events.specs.declared.refusals.AnswerRefused.TheVariants.{Unknown, TooOld}
use Rattle.service_events.specs.declared.refusals.ArriveRefused.{ArriveRefused}
use Rattle.service_events.specs.declared.refusals.CallRefused.TheVariants.{NoFlight}
use Rattle.service_events.specs.declared.refusals.OrderRefused.{OrderRefused}
use Rattle.service_events.specs.declared.refusals.OrderRefused.TheVariants.{Full}
use Rattle.service_events.proofs.AskedLemmas.{arrives_either, takes_either, posted_either}
use Rattle.service_events.proofs.KnownLaws.{known_as_told, subject_as_told}
use Rattle.service_events.proofs.SearchLemmas.{neither}
use Rattle.service_events.proofs.FlightLaws.{sends_change}
use Rattle.service_events.proofs.KindLemmas.{sends_deleted, sends_settled}
use Rattle.service_events.proofs.OrderLaws.{same_journal}
use Rattle.service_events.proofs.CallRowLemmas.{Each, EachAfter-append, each_append, each_weaker, IsSending, kind_follows}

-- ---- rows of which no rule is asked

-- it may stand behind any rows, whatever the rules are
abbrev IsFree : Row → Type 0
IsFree row = (rules : List Rule) (before : List Row) → AllowedOn rules before row

sending_free : (row : Row) → IsSending row → IsFree row
sending_free (Sent s) h = λ rules before. tt
sending_free row h = absurd h

free_follow : (began : GivenRules) (rows before : List Row) → Each IsFree rows → EachAfter (AllowedThen began) before rows
free_follow began rows before free =
    kind_follows (AllowedThen began) IsFree (λ before row free. free (rules_now began before).rules before) rows before free

-- they may be noted
stays_by : (s t : Kept) (rows : List Row) → t.began ≡ s.began → t.journal ≡ s.journal ++ rows → EachAfter (AllowedThen s.began) s.journal rows → IsAllowed s → IsAllowed t
stays_by s t rows same is follow h =
    subst (λ began. Allowed began t.journal) (sym same)
    (subst (Allowed s.began) (sym is) (EachAfter-append (AllowedThen s.began) s.journal rows [] h follow))

free_stays : (s t : Kept) (rows : List Row) → t.began ≡ s.began → t.journal ≡ s.journal ++ rows → Each IsFree rows → IsAllowed s → IsAllowed t
free_stays s t rows same is free h = stays_by s t rows same is (free_follow s.began rows s.journal free) h

sending_stays : (s t : Kept) (rows : List Row) → t.began ≡ s.began → t.journal ≡ s.journal ++ rows → Each IsSending rows → IsAllowed s → IsAllowed t
sending_stays s t rows same is sending h = free_stays s t rows same is (each_weaker IsSending IsFree sending_free rows sending) h

-- ---- live requests

took_free : (o : Origin) (q : Request) → Each IsFree (took_rows o q)
took_free Outside q = tt
took_free (Call c n) q = (λ rules before. refl, tt)

committed_stays : (s : Kept) (f : Flight) (t : Trace) → IsAllowed s → IsAllowed (committed s f t).service
committed_stays s f t h =
    let surplus = surplus_rows s f t in
    let took = took_rows f.origin f.request in
    let asks = Asked (record { id = next_id s; origin = f.origin; request = f.request; inputs = f.inputs; program = f.program.number }) in
    let deleted = each_weaker IsSending IsFree sending_free surplus (sends_deleted s.registers (drop (length t.calls) f.numbers) (drop (length t.calls) f.calls)) in
    free_stays s (committed s f t).service (before_answer s f t ++ live_answer s f t ∷ []) refl refl
    (each_append IsFree (before_answer s f t) (live_answer s f t ∷ [])
    (each_append IsFree surplus (asks ∷ took) deleted (λ rules before. tt, took_free f.origin f.request)) (λ rules before. tt, tt)) h

either_stays : (o : Option CallMade) (go : CallMade → After Arrived) (never : After Arrived) → ((call : CallMade) → IsAllowed (go call).service) → IsAllowed never.service
    → IsAllowed (call_or_none o go never).service
either_stays None go never h k = k
either_stays (Some call) go never h k = h call

named_stays : (s : Kept) (call : CallMade) → IsAllowed s → IsAllowed (noted (named (next_number s.registers) call ∷ []) s)
named_stays s call h =
    let rows = named (next_number s.registers) call ∷ [] in sending_stays s (noted rows s) rows refl refl (tt, tt) h

change_stays : (s : Kept) (f : Flight) (slot : ℕ) (call : CallMade) → IsAllowed s → IsAllowed (noted (change_rows s f slot call) s)
change_stays s f slot call h =
    let rows = change_rows s f slot call in
    sending_stays s (noted rows s) rows refl refl (sends_change s (slice_get f.numbers slot) (slice_get f.calls slot) (next_number s.registers) call) h

completing_stays : (s : Kept) (f : Flight) (ran : Ran) (move : Move) (again : Kept → Flight → After Arrived) → ((t : Kept) (g : Flight) → IsAllowed t → IsAllowed (again t g).service)
    → IsAllowed s → IsAllowed (completing s f ran move again).service
completing_stays s f ran Commit again next h = committed_stays s f (trace_or_dead ran) h
completing_stays s f ran Name again next h =
    either_stays (wanted_of ran) (λ call. again (named_unsent s call) (with_slot (next_number s.registers) call f)) (committed s f (trace_or_dead ran))
    (λ call. next (named_unsent s call) (with_slot (next_number s.registers) call f) (named_stays s call h))
    (committed_stays s f (trace_or_dead ran) h)
completing_stays s f ran (Change slot) again next h =
    either_stays (slice_get (calls_in ran) slot) (λ call. again (changed_unsent s f slot call) (with_change slot (next_number s.registers) call f)) (committed s f (trace_or_dead ran))
    (λ call. next (changed_unsent s f slot call) (with_change slot (next_number s.registers) call f) (change_stays s f slot call h))
    (committed_stays s f (trace_or_dead ran) h)

completed_stays : (runs : ℕ) (s : Kept) (f : Flight) → IsAllowed s → IsAllowed (completed runs s f).service
completed_stays zero s f h = committed_stays s f dead_trace h
completed_stays (suc runs) s f h =
    completing_stays s f (flight_run s f) (next_move f (flight_run s f)) (completed runs) (completed_stays runs) h

changed_stays : (s : Kept) (f : Flight) (slot : ℕ) (call : CallMade) → IsAllowed s → IsAllowed (changed s f slot call).service
changed_stays s f slot call h =
    cond_both (nat_le 3 f.changes) (completed 17 (changed_unsent s f slot call) (with_change slot (next_number s.registers) call f))
    (waits (noted (change_rows s f slot call) s) (with_change slot (next_number s.registers) call f) (next_number s.registers) call) (λ a. IsAllowed a.service)
    (λ _. completed_stays 17 (changed_unsent s f slot call) (with_change slot (next_number s.registers) call f) (change_stays s f slot call h))
    (λ _. change_stays s f slot call h)

moved_stays : (s : Kept) (f : Flight) (ran : Ran) (move : Move) → IsAllowed s → IsAllowed (moved s f ran move).service
moved_stays s f ran Commit h = committed_stays s f (trace_or_dead ran) h
moved_stays s f ran Name h =
    either_stays (wanted_of ran)
    (λ call. waits (noted (named (next_number s.registers) call ∷ []) s) (with_slot (next_number s.registers) call f) (next_number s.registers) call)
    (committed s f (trace_or_dead ran))
    (λ call. named_stays s call h) (committed_stays s f (trace_or_dead ran) h)
moved_stays s f ran (Change slot) h =
    either_stays (slice_get (calls_in ran) slot) (λ call. changed s f slot call) (committed s f (trace_or_dead ran))
    (λ call. changed_stays s f slot call h) (committed_stays s f (trace_or_dead ran) h)

goes_on_stays : (s : Kept) (f : Flight) → IsAllowed s → IsAllowed (goes_on s f).service
unfolding goes_on
goes_on_stays s f h = moved_stays s f (flight_run s f) (next_move f (flight_run s f)) h

-- an arrival
admitted_stays : (s : Kept) (o : Origin) (q : Request) (i : Inputs) (n : Option ℕ) → IsAllowed s → IsAllowed (admitted s o q i n).service
admitted_stays s o q i (Some n) h = h
admitted_stays s o q i None h = goes_on_stays s (new_flight s o q i) h

known_stays : (s : Kept) (c : List ℕ) (n : ℕ) (e : Entry) (m : Option Record) → IsAllowed s → IsAllowed (known_by s c n e m).service
known_stays s c n e None h = h
known_stays s c n e (Some m) h = h

arrives_stays : (s : Kept) (c : List ℕ) (n : ℕ) (q : Request) (i : Inputs) (e : Option Entry) → IsAllowed s → IsAllowed (arrives_or_known s c n q i e).service
arrives_stays s c n q i (Some e) h = known_stays s c n e (record_of e) h
arrives_stays s c n q i None h = admitted_stays s (Call c n) q i (or_else (is_crowded s) (is_heavy s)) h

version_stays : (s : Kept) (version : ℕ) (desired : Option Request) (known : After (Result Arrived ArriveRefused)) → IsAllowed s → IsAllowed known.service
    → IsAllowed (by_version s version desired known).service
version_stays s version None known h k = h
version_stays s version (Some q) known h k = k

gone_stays : (s : Kept) (last : Option TookRow) (known : After (Result Arrived ArriveRefused)) → IsAllowed s → IsAllowed known.service → IsAllowed (unless_gone s last known).service
gone_stays s None known h k = k
gone_stays s (Some t) known h k = version_stays s t.version t.desired known h k

-- a call's answer
seen_free : (a : AnswerMessage) (new : Bool) → Each IsFree (if new then seen_live a ∷ [] else [])
seen_free a true = (λ rules before. refl, tt)
seen_free a false = tt

answered_stays : (s : Kept) (id : ℕ) (a : AnswerMessage) (o : Option Flight) → IsAllowed s → IsAllowed (answered_flight s id a o).service
answered_stays s id a None h = h
answered_stays s id a (Some f) h =
    let t = noted (live_answer_rows s a) s in
    cond_both (is_for s a f) (accepted (goes_on t f)) (after s (Err (NoFlight id))) (λ a. IsAllowed a.service)
    (λ _. goes_on_stays t f
    (free_stays s t (live_answer_rows s a) refl refl (λ rules before. tt, seen_free a (is_new_to a (register a.number s.registers))) h))
    (λ _. h)

-- a call's failure
failed_stays : (s : Kept) (id number : ℕ) (why : Why) (o : Option Flight) → IsAllowed s → IsAllowed (failed_flight s id number why o).service
failed_stays s id number why None h = h
failed_stays s id number why (Some f) h =
    cond_both (nat_eq (awaited f) number) (accepted (goes_on (told number why s) f)) (after s (Err (NoFlight id))) (λ a. IsAllowed a.service)
    (λ _. goes_on_stays (told number why s) f h) (λ _. h)

-- an abandonment
abandoned_stays : (s : Kept) (o : Option Flight) → IsAllowed s → IsAllowed (abandoned s o).service
abandoned_stays s None h = h
abandoned_stays s (Some f) h =
    let rows = all_deleted s.registers f.numbers f.calls in
    sending_stays s (abandoned s (Some f)).service rows refl refl (sends_deleted s.registers f.numbers f.calls) h

-- ---- a repair step

answer_free : (e : Entry) (m : Made) (b : Bool)
    → Each IsFree (if b then Answered (record { id = e.id; origin = e.origin; answer_version = raised e.answer_version; version = e.version; response = m.trace.response; live = false }) ∷ [] else [])
answer_free e m true = (λ rules before. tt, tt)
answer_free e m false = tt

stepped_stays : (s : Kept) (o : Option Stale) → IsAllowed s → IsAllowed (step_by s o).service
stepped_stays s None h = h
stepped_stays s (Some x) h =
    let e = x.entry in
    let m = new_record s x.rows e in
    let sends = sends_settled s.registers e.slots (calls_of_made e.made) m.trace.calls (next_number s.registers) in
    free_stays s (step_by s (Some x)).service (sent_rows s e m ++ answer_rows e m) refl refl
    (each_append IsFree (sent_rows s e m) (answer_rows e m) (each_weaker IsSending IsFree sending_free (sent_rows s e m) sends) (answer_free e m (is_new_answer e.made m))) h

-- ---- what comes back of a post

back_stays : (s : Kept) (post : Post) (hold : Hold) → IsAllowed s → IsAllowed (held_back s post hold)
back_stays s (Set set) hold h = h
back_stays s (Token t) hold h = h
back_stays s (Fetch f) hold h = h

held_stays : (s : Kept) (post : Post) (hold : Option Hold) → IsAllowed s → IsAllowed (held_where s post hold).service
held_stays s post None h = h
held_stays s post (Some hold) h =
    cond_both (is_now s post) (after (held_back s post hold) (Ok Held)) (after s (Ok Left)) (λ a. IsAllowed a.service) (λ _. back_stays s post hold h) (λ _. h)

-- of an answer that is fetched no rule is asked: one was, when it was announced
fetched_stays : (s : Kept) (a : AnswerMessage) (o : Option Register) (n : Option NotedRow) → IsAllowed s → IsAllowed (fetched s a o n).service
fetched_stays s a None n h = h
fetched_stays s a (Some r) None h = h
fetched_stays s a (Some r) (Some n) h =
    cond_both (is_newer r.answer a.answer_version) (after (noted (fetched_row a n ∷ []) s) (Ok Saw)) (after s (Ok Knew)) (λ x. IsAllowed x.service)
    (λ _. free_stays s (noted (fetched_row a n ∷ []) s) (fetched_row a n ∷ []) refl refl (λ rules before. tt, tt) h) (λ _. h)

reply_stays : (s : Kept) (post : Post) (answer : PostReply) → IsAllowed s → IsAllowed (posted s post answer).service
reply_stays s post (WasAcked ack) h =
    free_stays s (posted s post (WasAcked ack)).service (saw_ack_row ack ∷ []) refl refl (λ rules before. tt, tt) h
reply_stays s post (WasConfirmedBack c) h =
    free_stays s (posted s post (WasConfirmedBack c)).service (was_confirmed_row c ∷ []) refl refl (λ rules before. tt, tt) h
reply_stays s post (Given a) h = fetched_stays s a (register a.number s.registers) (noted_at a.number a.answer_version s.journal) h
reply_stays s post (Refused word number) h = held_stays s post (hold_of word number) h
reply_stays s post (Lost note) h = h

-- ---- what isn't denied is allowed, by the rule that decided

allowed_is : (d : Decision) → is_denied d ≡ false → d ≡ Allow (rule_of d)
allowed_is (Allow rule) h = refl
allowed_is (Deny rule) h = cc

-- a row that the service's rules allow now may stand behind its journal, which tells of these rules
allowed_then : (s : Kept) → Fits s → (row : Row) → AllowedOn s.rules.rules s.journal row → AllowedThen s.began s.journal row
allowed_then s f row allowed = subst (λ (g : GivenRules). AllowedOn g.rules s.journal row) f.programs.rules allowed

-- ---- a version of a call

module _ (s : Kept) (f : Fits s) (set : SetMessage) where
  -- the question by the entries is the question by the journal
  take_question : is_denied (take_decision s set) ≡ false → AllowedThen s.began s.journal (took_row s set)
  take_question allowed =
      allowed_then s f (took_row s set)
      (subst (λ known. decision s.rules.rules (version_question set.caller set.who known set.desired) ≡ Allow (take_rule s set))
      (known_as_told s f.asked set.caller set.number) (allowed_is (take_decision s set) allowed))

  taken_stays : (i : Inputs) (e : Option Entry) (d : Option Request) → is_denied (take_decision s set) ≡ false → IsAllowed s → IsAllowed (taken_by s set i e d)
  taken_stays i (Some e) d allowed h =
      stays_by s (taken_by s set i (Some e) d) (took_row s set ∷ (acked_row set ∷ [])) refl refl (take_question allowed, (tt, tt)) h
  taken_stays i None (Some q) allowed h =
      stays_by s (taken_by s set i None (Some q)) (took_row s set ∷ (created_row s set q i ∷ (acked_row set ∷ []))) refl refl (take_question allowed, (tt, (tt, tt))) h
  taken_stays i None None allowed h =
      stays_by s (taken_by s set i None None) (took_row s set ∷ (acked_row set ∷ [])) refl refl (take_question allowed, (tt, tt)) h

  new_stays : (i : Inputs) → IsAllowed s → IsAllowed (take_new s set i).service
  new_stays i h = by (find_call (origin_of set) (folded s))
    where
      by : (o : Option Entry) → IsAllowed (take_unless_past s set i o).service
      by (Some e) = h
      by None =
          cond_both (is_denied (take_decision s set)) (take_denied s set) (take_allowed s set i) (λ a. IsAllowed a.service) (λ _. h)
          (λ allowed. taken_stays i (find_call (origin_of set) s.entries) set.desired allowed h)

  version_taken_stays : (i : Inputs) (n : Option ℕ) → IsAllowed s → IsAllowed (take_admitted s set i n).service
  version_taken_stays i (Some n) h = h
  version_taken_stays i None h =
      cond_both (is_known s set) (after (acked_again s set) (Ok (taken set None))) (take_new s set i) (λ a. IsAllowed a.service)
      (λ _. free_stays s (acked_again s set) (acked_row set ∷ []) refl refl (λ rules before. tt, tt) h) (λ _. new_stays i h)

-- ---- a token

module _ (s : Kept) (f : Fits s) (a : TokenMessage) (r : Register) (found : register a.number s.registers ≡ Some r) where
  -- the question by the register is the question by the journal
  hear_question : is_denied (hear_decision s a r) ≡ false → AllowedThen s.began s.journal (noted_row (hear_rule s a r) a)
  hear_question allowed =
      let sent : Some (sent_by r) ≡ last_sent a.number s.journal = sym (ap (option_map sent_by) found) ∙ f.sent.registers a.number in
      allowed_then s f (noted_row (hear_rule s a r) a)
      (subst
      (λ last. IsSomeAnd (option_map (λ (sent : SentRow). answer_question sent.dest a.who sent.desired) last) (λ q. decision s.rules.rules q ≡ Allow (hear_rule s a r)))
      sent (allowed_is (hear_decision s a r) allowed))

  hear_stays : IsAllowed s → IsAllowed (hear_new s a r).service
  hear_stays h =
      let rows = noted_row (hear_rule s a r) a ∷ (confirmed_row a ∷ []) in
      cond_both (is_past_call a.number s) (after s (Err (TooOld a.number))) (cond (is_denied (hear_decision s a r)) (hear_denied s a r) (hear_allowed s a r)) (λ a. IsAllowed a.service) (λ _. h)
      (λ _. cond_both (is_denied (hear_decision s a r)) (hear_denied s a r) (hear_allowed s a r) (λ a. IsAllowed a.service) (λ _. h)
      (λ allowed. stays_by s (noted rows s) rows refl refl (hear_question allowed, (tt, tt)) h))

  heard_stays : (known new : Bool) → IsAllowed s
      → IsAllowed (if not known then after s (Err (Unknown a.number)) else (if new then hear_new s a r else after (noted (confirmed_row a ∷ []) s) (Ok (heard a None)))).service
  heard_stays false new h = h
  heard_stays true true h = hear_stays h
  heard_stays true false h = free_stays s (noted (confirmed_row a ∷ []) s) (confirmed_row a ∷ []) refl refl (λ rules before. tt, tt) h

token_stays : (s : Kept) (f : Fits s) (a : TokenMessage) (o : Option Register) → register a.number s.registers ≡ o → IsAllowed s → IsAllowed (token_taken_where s a o).service
token_stays s f a None found h = h
token_stays s f a (Some r) found h = heard_stays s f a r found (same_text r.dest a.callee) (is_news r a.answer_version) h

-- ---- an order

asked_free : (s : Kept) (command : Command) (i : Inputs) → Each IsFree (asked_rows s command i)
asked_free s (Create before after q) i = (λ rules before. tt, tt)
asked_free s (Cancel id) i = tt
asked_free s (Restore id) i = tt
asked_free s (Replace id method path body) i = tt
asked_free s (Retry name) i = tt
asked_free s (Fold id) i = tt
asked_free s (Deploy p) i = tt
asked_free s (Correct k p) i = tt
asked_free s (Rules g) i = tt

same_began : (s : Kept) (command : Command) (who : List ℕ) (i : Inputs) → (carried_out s command who i).began ≡ s.began
same_began s (Cancel id) who i = refl
same_began s (Restore id) who i = refl
same_began s (Replace id method path body) who i = refl
same_began s (Create before after q) who i = refl
same_began s (Retry (OfCall number)) who i = refl
same_began s (Retry (OfReply id)) who i = refl
same_began s (Retry (OfFetch number)) who i = refl
same_began s (Fold id) who i = refl
same_began s (Deploy p) who i = refl
same_began s (Correct k p) who i = refl
same_began s (Rules g) who i = refl

-- the row of an order
abbrev ordered_row : Kept → Command → List ℕ → List ℕ → Row
ordered_row s command token who =
    OrderedAs (record {
      token = token;
      command = command;
      who = who;
      rule = order_rule s command who;
      original = original s command;
      repaired = repaired s command;
      about = about s command;
    })

module _ (s : Kept) (f : Fits s) (command : Command) (token who : List ℕ) (i : Inputs) where
  undenied : (d : Decision) → unless_allowed d ≡ None → is_denied d ≡ false
  undenied (Allow rule) h = refl
  undenied (Deny rule) h = cc

  -- the question by the entries and registers is the question by the journal
  order_question : refused s command who ≡ None
      → decision s.rules.rules (command_question command who (subject s command) (request_put command (subject s command))) ≡ Allow (order_rule s command who)
  order_question accepted =
      allowed_is (order_decision s command who)
      (undenied (order_decision s command who)
      (neither (or_else (or_else (misnamed s command) (unless_quiet s command)) (option_map (λ n. Full n) (is_too_much_for s command))) (unless_allowed (order_decision s command who)) accepted).1)

  order_by_stays : (why : Option OrderRefused) → refused s command who ≡ why → IsAllowed s → IsAllowed (order_by s command token who i why).service
  order_by_stays (Some why) is h = h
  order_by_stays None is h =
      let rows = order_rows s command token who i in
      let row = ordered_row s command token who in
      let told : AllowedOn s.rules.rules s.journal row =
      subst (λ found. decision s.rules.rules (command_question command who found (request_put command found)) ≡ Allow (order_rule s command who))
      (subject_as_told s f command) (order_question is) in
      stays_by s (noted rows (carried_out s command who i)) rows (same_began s command who i) (ap (λ j. j ++ rows) (same_journal s command who i))
      (allowed_then s f row told, free_follow s.began (asked_rows s command i) _ (asked_free s command i)) h

  order_where_stays : (o : Option OrderedRow) → IsAllowed s → IsAllowed (order_where s command token who i o).service
  order_where_stays (Some o) h = h
  order_where_stays None h = order_by_stays (refused s command who) refl h

-- ---- all events

pub event_stays_allowed : (s : Kept) (e : Event) → Fits s → IsAllowed s → IsAllowed (event s e).service
event_stays_allowed s (events.Arrive Outside q i) f h = admitted_stays s Outside q i (or_else (is_crowded s) (is_heavy s)) h
event_stays_allowed s (events.Arrive (Call c n) q i) f h =
    let entry = find_call (Call c n) s.entries in
    arrives_either s c n q i (λ a. IsAllowed a.service) h
    (gone_stays s (last_taken c n s.journal) (arrives_or_known s c n q i entry) h (arrives_stays s c n q i entry h))
event_stays_allowed s (events.CallAnswered id a) f h = answered_stays s id a (flight_of id s) h
event_stays_allowed s (events.CallFailed id number why) f h = failed_stays s id number why (flight_of id s) h
event_stays_allowed s (events.Abandon id) f h = abandoned_stays s (flight_of id s) h
event_stays_allowed s (events.Take set i) f h = takes_either s set i (λ a. IsAllowed a.service) h (version_taken_stays s f set i (is_too_much s set) h)
event_stays_allowed s (events.TakeToken a) f h = token_stays s f a (register a.number s.registers) refl h
event_stays_allowed s (events.Give x) f h = h
event_stays_allowed s (events.NextPost dest) f h = h
event_stays_allowed s (events.WritePost name) f h = h
event_stays_allowed s (events.Posted post reply) f h = posted_either s post reply (λ a. IsAllowed a.service) h (λ _ _. reply_stays s post reply h)
event_stays_allowed s events.Step f h = stepped_stays s (stale_in (answers s) (base s) (unfolded s)) h
event_stays_allowed s (events.Order command token who i) f h = order_where_stays s f command token who i (ordered token s.journal) h

-- ---- at the start

pub fresh_allowed : (setting : Setting) (rules : GivenRules) → IsAllowed (fresh setting rules)
fresh_allowed setting rules = tt
