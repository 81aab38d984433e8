-- No event but a live request's answers a live request.
use Rattle.std.proofs.Common.{◌≡◌, ℕ, Bool, true, false, not, List, [], ◌∷◌, ◌++◌, Option, Some, None, Ok, Err, refl, ap, ◌∙◌, if◌then◌else◌}
use Rattle.std.proofs.lemmas.Bool.{cond_both}
use Rattle.lang_base.specs.Texts.{same_text}
use Rattle.lang_core.specs.declared.inputs.Inputs.{Inputs}
use Rattle.lang_core.specs.declared.request.Request.{Request}
use Rattle.request_log.specs.Entries.{find_call}
use Rattle.request_log.specs.declared.entry.Entry.{Entry}
use Rattle.request_log.specs.declared.entry.Made.{Made}
use Rattle.local_repair.specs.Steps.{calls_of_made, is_new_answer, raised}
use Rattle.repair_messages.specs.declared.messages.AnswerMessage.{AnswerMessage}
use Rattle.repair_messages.specs.declared.messages.SetMessage.{SetMessage}
use Rattle.repair_messages.specs.declared.messages.TokenMessage.{TokenMessage}
use Rattle.repair_messages.specs.declared.posts.Post.{Post}
use Rattle.repair_messages.specs.declared.posts.Post.TheVariants.{Set, Token, Fetch}
use Rattle.journal_rows.specs.Words.{noted_at, ordered}
use Rattle.journal_rows.specs.declared.caller.NotedRow.{NotedRow}
use Rattle.journal_rows.specs.declared.orders.Command.{Command}
use Rattle.journal_rows.specs.declared.orders.Command.TheVariants.{Cancel, Restore, Replace, Create, Retry, Fold, Deploy, Correct, Rules}
use Rattle.journal_rows.specs.declared.orders.OrderedRow.{OrderedRow}
use Rattle.journal_rows.specs.declared.row.Row.TheVariants.{Answered}
use Rattle.call_registers.specs.Registers.{register, next_number, is_news, is_newer}
use Rattle.call_registers.specs.declared.register.Hold.{Hold}
use Rattle.call_registers.specs.declared.register.Register.{Register}
use Rattle.flights.specs.declared.flight.Flight.{Flight}
use Rattle.service_events.specs.State.{Kept, After, after, answers, flight_of, base, unfolded}
use Rattle.service_events.specs.Calls.{noted, all_deleted}
use Rattle.service_events.specs.Arriving.{abandoned}
use Rattle.service_events.specs.Commits.{live_rows}
use Rattle.service_events.specs.Steps.{sent_rows, answer_rows, new_record, Stale, stale_in, step_by}
use Rattle.service_events.specs.Messages.{take_new, origin_of, is_known, is_too_much, acked_row, created_row, took_row, acked_again, taken_by, taken, take_admitted, noted_row, hear_rule, hear_new, confirmed_row, heard, token_taken_where, fetched_row, fetched, is_now, hold_of, held_back, held_where, saw_ack_row, was_confirmed_row, posted}
use Rattle.service_events.specs.Orders.{refused, asked_rows, order_rows, carried_out, order_by, order_where}
use Rattle.service_events.specs.Event.{event}
use Rattle.service_events.specs.declared.answers.PostReply.{PostReply}
use Rattle.service_events.specs.declared.event.Event.{Event}
use Rattle.service_events.specs.declared.event.Event.TheVariants as events
use Rattle.service_events.specs.declared.answers.PostReply.TheVariants.{Acked as WasAcked, Confirmed as WasConfirmedBack, Given, Refused, Lost}
use Rattle.service_events.specs.declared.answers.Posted.TheVariants.{Saw, Knew, Held, Left}
use Rattle.service_events.specs.declared.refusals.AnswerRefused.TheVariants.{Unknown}
use Rattle.service_events.specs.declared.refusals.OrderRefused.{OrderRefused}
use Rattle.service_events.proofs.AskedLemmas.{take_either, hear_either, takes_either, posted_either}
use Rattle.service_events.proofs.CallRowLemmas.{Each, each_append, each_weaker, IsSending}
use Rattle.service_events.proofs.KindLemmas.{sends_deleted, sends_settled}
use Rattle.service_events.proofs.LiveRows.{IsSilent, live_same, sending_silent}
use Rattle.service_events.proofs.OrderLaws.{same_journal}

-- the same live requests are answered
abbrev pub AnswersNone : {A : Type 0} → Kept → After A → Type 0
AnswersNone s a = live_rows a.service.journal ≡ live_rows s.journal

-- an abandonment
abandoned_none : (s : Kept) (o : Option Flight) → AnswersNone s (abandoned s o)
abandoned_none s None = refl
abandoned_none s (Some f) =
    let rows = all_deleted s.registers f.numbers f.calls in
    live_same s.journal rows (each_weaker IsSending IsSilent sending_silent rows (sends_deleted s.registers f.numbers f.calls))

-- a repair step
answer_silent : (e : Entry) (m : Made) (b : Bool)
    → Each IsSilent (if b then Answered (record { id = e.id; origin = e.origin; answer_version = raised e.answer_version; version = e.version; response = m.trace.response; live = false }) ∷ [] else [])
answer_silent e m true = (refl, tt)
answer_silent e m false = tt

stepped_none : (s : Kept) (o : Option Stale) → AnswersNone s (step_by s o)
stepped_none s None = refl
stepped_none s (Some x) =
    let e = x.entry in
    let m = new_record s x.rows e in
    let sends = sends_settled s.registers e.slots (calls_of_made e.made) m.trace.calls (next_number s.registers) in
    live_same s.journal (sent_rows s e m ++ answer_rows e m)
    (each_append IsSilent (sent_rows s e m) (answer_rows e m) (each_weaker IsSending IsSilent sending_silent (sent_rows s e m) sends) (answer_silent e m (is_new_answer e.made m)))

-- a version of a call
taken_none : (s : Kept) (set : SetMessage) (i : Inputs) (e : Option Entry) (d : Option Request) → live_rows (taken_by s set i e d).journal ≡ live_rows s.journal
taken_none s set i (Some e) d = live_same s.journal (took_row s set ∷ (acked_row set ∷ [])) (tt, (tt, tt))
taken_none s set i None (Some q) =
    live_same s.journal (took_row s set ∷ (created_row s set q i ∷ (acked_row set ∷ []))) (tt, (tt, (tt, tt)))
taken_none s set i None None = live_same s.journal (took_row s set ∷ (acked_row set ∷ [])) (tt, (tt, tt))

admitted_none : (s : Kept) (set : SetMessage) (i : Inputs) (n : Option ℕ) → AnswersNone s (take_admitted s set i n)
admitted_none s set i (Some n) = refl
admitted_none s set i None =
    cond_both (is_known s set) (after (acked_again s set) (Ok (taken set None)))
    (take_new s set i) (AnswersNone s)
    (λ _. live_same s.journal (acked_row set ∷ []) (tt, tt))
    (λ _. take_either s set i (AnswersNone s) (λ e. refl) refl (λ _. taken_none s set i (find_call (origin_of set) s.entries) set.desired))

-- a token
heard_none : (s : Kept) (a : TokenMessage) (o : Option Register) → AnswersNone s (token_taken_where s a o)
heard_none s a None = refl
heard_none s a (Some r) =
    by_test (not (same_text r.dest a.callee)) (is_news r a.answer_version)
  where
    by_test : (b c : Bool)
        → AnswersNone s
        (if b then after s (Err (Unknown a.number))
        else (if c
        then hear_new s a r
        else after (noted (confirmed_row a ∷ []) s) (Ok (heard a None))))
    by_test true c = refl
    by_test false true = hear_either s a r (AnswersNone s) refl refl (λ _. live_same s.journal (noted_row (hear_rule s a r) a ∷ (confirmed_row a ∷ [])) (tt, (tt, tt)))
    by_test false false = live_same s.journal (confirmed_row a ∷ []) (tt, tt)

-- what comes back of a post
back_none : (s : Kept) (post : Post) (hold : Hold) → live_rows (held_back s post hold).journal ≡ live_rows s.journal
back_none s (Set set) hold = refl
back_none s (Token t) hold = refl
back_none s (Fetch f) hold = refl

held_none : (s : Kept) (post : Post) (hold : Option Hold) → AnswersNone s (held_where s post hold)
held_none s post None = refl
held_none s post (Some hold) =
    cond_both (is_now s post) (after (held_back s post hold) (Ok Held)) (after s (Ok Left)) (AnswersNone s) (λ _. back_none s post hold) (λ _. refl)

fetched_none : (s : Kept) (a : AnswerMessage) (o : Option Register) (n : Option NotedRow) → AnswersNone s (fetched s a o n)
fetched_none s a None n = refl
fetched_none s a (Some r) None = refl
fetched_none s a (Some r) (Some n) =
    cond_both (is_newer r.answer a.answer_version) (after (noted (fetched_row a n ∷ []) s) (Ok Saw)) (after s (Ok Knew)) (AnswersNone s)
    (λ _. live_same s.journal (fetched_row a n ∷ []) (tt, tt)) (λ _. refl)

posted_none : (s : Kept) (post : Post) (answer : PostReply) → AnswersNone s (posted s post answer)
posted_none s post (WasAcked ack) = live_same s.journal (saw_ack_row ack ∷ []) (tt, tt)
posted_none s post (WasConfirmedBack c) = live_same s.journal (was_confirmed_row c ∷ []) (tt, tt)
posted_none s post (Given a) = fetched_none s a (register a.number s.registers) (noted_at a.number a.answer_version s.journal)
posted_none s post (Refused word number) = held_none s post (hold_of word number)
posted_none s post (Lost note) = refl

-- an order
asked_silent : (s : Kept) (command : Command) (i : Inputs) → Each IsSilent (asked_rows s command i)
asked_silent s (Create before after q) i = (tt, tt)
asked_silent s (Cancel id) i = tt
asked_silent s (Restore id) i = tt
asked_silent s (Replace id method path body) i = tt
asked_silent s (Retry name) i = tt
asked_silent s (Fold id) i = tt
asked_silent s (Deploy p) i = tt
asked_silent s (Correct k p) i = tt
asked_silent s (Rules g) i = tt

by_none : (s : Kept) (command : Command) (token who : List ℕ) (i : Inputs) (why : Option OrderRefused) → AnswersNone s (order_by s command token who i why)
by_none s command token who i (Some why) = refl
by_none s command token who i None =
    live_same (carried_out s command who i).journal (order_rows s command token who i) (tt, asked_silent s command i)
    ∙ ap live_rows (same_journal s command who i)

where_none : (s : Kept) (command : Command) (token who : List ℕ) (i : Inputs) (o : Option OrderedRow) → AnswersNone s (order_where s command token who i o)
where_none s command token who i (Some o) = refl
where_none s command token who i None = by_none s command token who i (refused s command who)

-- ---- all events by which no live request runs

-- no live request arrives by it, or goes on
abbrev pub RunsNoRequest : Event → Type 0
RunsNoRequest (events.Arrive o q i) = ⊥
RunsNoRequest (events.CallAnswered id a) = ⊥
RunsNoRequest (events.CallFailed id number why) = ⊥
RunsNoRequest e = Unit {0}

pub event_answers_none : (s : Kept) (e : Event) → RunsNoRequest e → AnswersNone s (event s e)
event_answers_none s (events.Arrive o q i) runs = absurd runs
event_answers_none s (events.CallAnswered id a) runs = absurd runs
event_answers_none s (events.CallFailed id number why) runs = absurd runs
event_answers_none s (events.Abandon id) runs = abandoned_none s (flight_of id s)
event_answers_none s (events.Take set i) runs = takes_either s set i (AnswersNone s) refl (admitted_none s set i (is_too_much s set))
event_answers_none s (events.TakeToken a) runs = heard_none s a (register a.number s.registers)
event_answers_none s (events.Give f) runs = refl
event_answers_none s (events.NextPost dest) runs = refl
event_answers_none s (events.WritePost name) runs = refl
event_answers_none s (events.Posted post reply) runs = posted_either s post reply (AnswersNone s) refl (λ _ _. posted_none s post reply)
event_answers_none s events.Step runs = stepped_none s (stale_in (answers s) (base s) (unfolded s))
event_answers_none s (events.Order command token who i) runs = where_none s command token who i (ordered token s.journal)
