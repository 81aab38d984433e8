-- No event but a live request's tells a call why it consumes the tentative answer.
use Rattle.std.proofs.Common.{◌≡◌, ℕ, zero, suc, ◌+◌, Bool, true, false, not, List, [], ◌∷◌, ◌++◌, Option, Some, None, Ok, Err, length, replicate, refl, sym, ap, ◌∙◌, arith, append-nil, append_assoc, if◌then◌else◌}
use Rattle.std.proofs.lemmas.Bool.{cond_both}
use Rattle.lang_base.specs.Texts.{same_text}
use Rattle.lang_core.specs.declared.inputs.Inputs.{Inputs}
use Rattle.lang_core.specs.declared.request.Request.{Request}
use Rattle.request_log.specs.Entries.{find_call}
use Rattle.request_log.specs.declared.entry.Entry.{Entry}
use Rattle.repair_messages.specs.declared.messages.AnswerMessage.{AnswerMessage}
use Rattle.repair_messages.specs.declared.messages.SetMessage.{SetMessage}
use Rattle.repair_messages.specs.declared.messages.TokenMessage.{TokenMessage}
use Rattle.repair_messages.specs.declared.posts.Post.{Post}
use Rattle.repair_messages.specs.declared.posts.Post.TheVariants.{Set, Token, Fetch}
use Rattle.repair_messages.specs.declared.posts.PostName.TheVariants.{Call as OfCall, Reply as OfReply, Fetch as OfFetch}
use Rattle.journal_rows.specs.Words.{noted_at, ordered}
use Rattle.journal_rows.specs.declared.caller.NotedRow.{NotedRow}
use Rattle.journal_rows.specs.declared.caller.SentRow.{SentRow}
use Rattle.journal_rows.specs.declared.orders.Command.{Command}
use Rattle.journal_rows.specs.declared.orders.Command.TheVariants.{Cancel, Restore, Replace, Create, Retry, Fold, Deploy, Correct, Rules}
use Rattle.journal_rows.specs.declared.orders.OrderedRow.{OrderedRow}
use Rattle.journal_rows.specs.declared.row.Row.{Row}
use Rattle.journal_rows.specs.declared.row.Row.TheVariants.{Sent}
use Rattle.call_registers.specs.Registers.{register, first_register, next_number, at_number, sent_anew, is_news, is_newer, released, with_hold}
use Rattle.call_registers.specs.declared.register.Hold.{Hold}
use Rattle.call_registers.specs.declared.register.Register.{Register}
use Rattle.call_registers.specs.declared.register.Why.{Why}
use Rattle.flights.specs.declared.flight.Flight.{Flight}
use Rattle.service_events.specs.State.{Kept, after, answers, flight_of, base, unfolded}
use Rattle.service_events.specs.Arriving.{abandoned}
use Rattle.service_events.specs.Calls.{first_sent, put_sent, after_row, after_rows, noted, all_deleted}
use Rattle.service_events.specs.Causes.{causes_in, causes, AddsCauses}
use Rattle.service_events.specs.Messages.{take_new, origin_of, is_known, is_too_much, acked_row, created_row, took_row, acked_again, taken_by, taken, take_admitted, noted_row, hear_rule, hear_new, confirmed_row, heard, token_taken_where, fetched_row, fetched, is_now, hold_of, held_back, held_where, saw_ack_row, was_confirmed_row, posted}
use Rattle.service_events.specs.Orders.{refused, order_rows, carried_out, order_by, order_where}
use Rattle.service_events.specs.Steps.{sent_rows, answer_rows, new_record, Stale, stale_in, step_by}
use Rattle.service_events.specs.Event.{event}
use Rattle.service_events.specs.declared.answers.PostReply.{PostReply}
use Rattle.service_events.specs.declared.event.Event.{Event}
use Rattle.service_events.specs.declared.event.Event.TheVariants as events
use Rattle.service_events.specs.declared.answers.PostReply.TheVariants.{Acked as WasAcked, Confirmed as WasConfirmedBack, Given, Refused, Lost}
use Rattle.service_events.specs.declared.answers.Posted.TheVariants.{Saw, Knew, Held, Left}
use Rattle.service_events.specs.declared.refusals.AnswerRefused.TheVariants.{Unknown}
use Rattle.service_events.specs.declared.refusals.OrderRefused.{OrderRefused}
use Rattle.service_events.proofs.AskedLemmas.{take_either, hear_either, takes_either, posted_either}
use Rattle.service_parts.proofs.CauseLaws.{same_causes, row_tells, causes_push}
use Rattle.service_parts.proofs.SilentLaws.{RunsNoRequest}

-- ---- rows tell nothing of why

-- so many calls that tell nothing
abbrev nones : ℕ → List (Option Why)
nones n = replicate n None

-- what these registers told, and so many new ones nothing
abbrev AddsNone : List Register → List Register → Type 0
AddsNone rs rs' = (n : ℕ) × (causes_in rs' ≡ causes_in rs ++ nones n)

adds_same : (rs rs' : List Register) → causes_in rs' ≡ causes_in rs → AddsNone rs rs'
adds_same rs rs' same = (0, same ∙ sym (append-nil (causes_in rs)))

nones_joined : (n m : ℕ) → nones n ++ nones m ≡ nones (n + m)
nones_joined zero m = (let same : m ≡ 0 + m = omega arith in ap nones same)
nones_joined (suc n) m =
    (let same : suc (n + m) ≡ suc n + m = omega arith in ap (λ xs. None ∷ xs) (nones_joined n m) ∙ ap nones same)

adds_then : (a b c : List Register) → AddsNone a b → AddsNone b c → AddsNone a c
adds_then a b c x y = (
  x.0 + y.0,
  y.1 ∙ ap (λ ws. ws ++ nones y.0) x.1 ∙ append_assoc (causes_in a) (nones x.0) (nones y.0) ∙ ap (λ ws. causes_in a ++ ws) (nones_joined x.0 y.0),
)

first_adds : (at : ℕ) (s : SentRow) (q : Option Request) (rs : List Register) → AddsNone rs (first_sent at s q rs)
first_adds at s None rs = adds_same rs rs refl
first_adds at s (Some q) rs = (1, causes_push rs (first_register (next_number rs) s.dest q at))

sent_adds : (at : ℕ) (s : SentRow) (o : Option Register) (rs : List Register) → AddsNone rs (put_sent at s o rs)
sent_adds at s None rs = first_adds at s s.desired rs
sent_adds at s (Some r) rs = adds_same rs (at_number s.number (sent_anew s.desired at) rs) (same_causes s.number (sent_anew s.desired at) (λ x. refl) rs)

row_adds : (at : ℕ) (rs : List Register) (row : Row) → AddsNone rs (after_row at rs row)
row_adds at rs (Sent s) = sent_adds at s (register s.number rs) rs
row_adds at rs row = adds_same rs (after_row at rs row) (row_tells at rs row tt)

rows_add : (at : ℕ) (rs : List Register) (rows : List Row) → AddsNone rs (after_rows at rs rows)
rows_add at rs [] = adds_same rs rs refl
rows_add at rs (row ∷ rows) =
    let one = after_row at rs row in
    adds_then rs one (after_rows (at + 1) one rows) (row_adds at rs row) (rows_add (at + 1) one rows)

-- ---- the events

-- no register is told anything of why
abbrev pub TellsNone : Kept → Kept → Type 0
TellsNone s t = AddsCauses (causes s) false t

tells_none : (s t : Kept) → AddsNone s.registers t.registers → TellsNone s t
tells_none s t x = record { count = x.0; are = x.1; some = λ yes. cc }

pub same_tells_none : (s t : Kept) → causes t ≡ causes s → TellsNone s t
same_tells_none s t same = tells_none s t (adds_same s.registers t.registers same)

abandoned_untold : (s : Kept) (o : Option Flight) → TellsNone s (abandoned s o).service
abandoned_untold s None = same_tells_none s s refl
abandoned_untold s (Some f) =
    tells_none s (abandoned s (Some f)).service (rows_add (length s.journal) s.registers (all_deleted s.registers f.numbers f.calls))

stepped_untold : (s : Kept) (o : Option Stale) → TellsNone s (step_by s o).service
stepped_untold s None = same_tells_none s s refl
stepped_untold s (Some x) =
    let m = new_record s x.rows x.entry in
    tells_none s (step_by s (Some x)).service (rows_add (length s.journal) s.registers (sent_rows s x.entry m ++ answer_rows x.entry m))

taken_untold : (s : Kept) (set : SetMessage) (i : Inputs) (e : Option Entry) (d : Option Request) → TellsNone s (taken_by s set i e d)
taken_untold s set i (Some e) d = tells_none s (taken_by s set i (Some e) d) (rows_add (length s.journal) s.registers (took_row s set ∷ (acked_row set ∷ [])))
taken_untold s set i None (Some q) =
    tells_none s (taken_by s set i None (Some q))
    (rows_add (length s.journal) s.registers (took_row s set ∷ (created_row s set q i ∷ (acked_row set ∷ []))))
taken_untold s set i None None = tells_none s (taken_by s set i None None) (rows_add (length s.journal) s.registers (took_row s set ∷ (acked_row set ∷ [])))

admitted_untold : (s : Kept) (set : SetMessage) (i : Inputs) (n : Option ℕ) → TellsNone s (take_admitted s set i n).service
admitted_untold s set i (Some n) = same_tells_none s s refl
admitted_untold s set i None =
    cond_both (is_known s set) (after (acked_again s set) (Ok (taken set None)))
    (take_new s set i) (λ a. TellsNone s a.service)
    (λ _. tells_none s (acked_again s set) (rows_add (length s.journal) s.registers (acked_row set ∷ [])))
    (λ _. take_either s set i (λ a. TellsNone s a.service) (λ e. same_tells_none s s refl) (same_tells_none s s refl) (λ _. taken_untold s set i (find_call (origin_of set) s.entries) set.desired))

heard_untold : (s : Kept) (a : TokenMessage) (o : Option Register) → TellsNone s (token_taken_where s a o).service
heard_untold s a None = same_tells_none s s refl
heard_untold s a (Some r) = by_test (not (same_text r.dest a.callee)) (is_news r a.answer_version)
  where
    noted_tells : (rows : List Row) → TellsNone s (noted rows s)
    noted_tells rows = tells_none s (noted rows s) (rows_add (length s.journal) s.registers rows)

    by_test : (b c : Bool)
        → TellsNone s
        (if b then after s (Err (Unknown a.number))
        else (if c
        then hear_new s a r
        else after (noted (confirmed_row a ∷ []) s) (Ok (heard a None)))).service
    by_test true c = same_tells_none s s refl
    by_test false true = hear_either s a r (λ h. TellsNone s h.service) (same_tells_none s s refl) (same_tells_none s s refl) (λ _. noted_tells (noted_row (hear_rule s a r) a ∷ (confirmed_row a ∷ [])))
    by_test false false = noted_tells (confirmed_row a ∷ [])

back_untold : (s : Kept) (post : Post) (hold : Hold) → TellsNone s (held_back s post hold)
back_untold s (Set set) hold = same_tells_none s (held_back s (Set set) hold) (same_causes set.number (with_hold hold) (λ r. refl) s.registers)
back_untold s (Token t) hold = same_tells_none s (held_back s (Token t) hold) refl
back_untold s (Fetch f) hold = same_tells_none s s refl

held_untold : (s : Kept) (post : Post) (hold : Option Hold) → TellsNone s (held_where s post hold).service
held_untold s post None = same_tells_none s s refl
held_untold s post (Some hold) =
    cond_both (is_now s post) (after (held_back s post hold) (Ok Held)) (after s (Ok Left)) (λ a. TellsNone s a.service)
    (λ _. back_untold s post hold) (λ _. same_tells_none s s refl)

fetched_untold : (s : Kept) (a : AnswerMessage) (o : Option Register) (n : Option NotedRow) → TellsNone s (fetched s a o n).service
fetched_untold s a None n = same_tells_none s s refl
fetched_untold s a (Some r) None = same_tells_none s s refl
fetched_untold s a (Some r) (Some n) =
    cond_both (is_newer r.answer a.answer_version) (after (noted (fetched_row a n ∷ []) s) (Ok Saw)) (after s (Ok Knew)) (λ x. TellsNone s x.service)
    (λ _. tells_none s (noted (fetched_row a n ∷ []) s) (rows_add (length s.journal) s.registers (fetched_row a n ∷ []))) (λ _. same_tells_none s s refl)

back_of_post_untold : (s : Kept) (post : Post) (answer : PostReply) → TellsNone s (posted s post answer).service
back_of_post_untold s post (WasAcked ack) = tells_none s (posted s post (WasAcked ack)).service (rows_add (length s.journal) s.registers (saw_ack_row ack ∷ []))
back_of_post_untold s post (WasConfirmedBack c) =
    tells_none s (posted s post (WasConfirmedBack c)).service (rows_add (length s.journal) s.registers (was_confirmed_row c ∷ []))
back_of_post_untold s post (Given a) = fetched_untold s a (register a.number s.registers) (noted_at a.number a.answer_version s.journal)
back_of_post_untold s post (Refused word number) = held_untold s post (hold_of word number)
back_of_post_untold s post (Lost note) = same_tells_none s s refl

carried_same : (s : Kept) (command : Command) (who : List ℕ) (i : Inputs) → causes (carried_out s command who i) ≡ causes s
carried_same s (Cancel id) who i = refl
carried_same s (Restore id) who i = refl
carried_same s (Replace id method path body) who i = refl
carried_same s (Create before after q) who i = refl
carried_same s (Retry (OfCall number)) who i = same_causes number (released who) (λ r. refl) s.registers
carried_same s (Retry (OfReply id)) who i = refl
carried_same s (Retry (OfFetch number)) who i = refl
carried_same s (Fold id) who i = refl
carried_same s (Deploy p) who i = refl
carried_same s (Correct k p) who i = refl
carried_same s (Rules g) who i = refl

by_untold : (s : Kept) (command : Command) (token who : List ℕ) (i : Inputs) (why : Option OrderRefused) → TellsNone s (order_by s command token who i why).service
by_untold s command token who i (Some why) = same_tells_none s s refl
by_untold s command token who i None =
    let done = carried_out s command who i in
    let rows = order_rows s command token who i in
    let noted_registers = after_rows (length done.journal) done.registers rows in
    tells_none s (noted rows done)
    (adds_then s.registers done.registers noted_registers (adds_same s.registers done.registers (carried_same s command who i))
    (rows_add (length done.journal) done.registers rows))

where_untold : (s : Kept) (command : Command) (token who : List ℕ) (i : Inputs) (o : Option OrderedRow) → TellsNone s (order_where s command token who i o).service
where_untold s command token who i (Some o) = same_tells_none s s refl
where_untold s command token who i None = by_untold s command token who i (refused s command who)

-- ---- all events by which no live request runs

pub event_untold : (s : Kept) (e : Event) → RunsNoRequest e → TellsNone s (event s e).service
event_untold s (events.Arrive o q i) runs = absurd runs
event_untold s (events.CallAnswered id a) runs = absurd runs
event_untold s (events.CallFailed id number why) runs = absurd runs
event_untold s (events.Abandon id) runs = abandoned_untold s (flight_of id s)
event_untold s (events.Take set i) runs =
    takes_either s set i (λ a. TellsNone s a.service) (same_tells_none s s refl) (admitted_untold s set i (is_too_much s set))
event_untold s (events.TakeToken a) runs = heard_untold s a (register a.number s.registers)
event_untold s (events.Give f) runs = same_tells_none s s refl
event_untold s (events.NextPost dest) runs = same_tells_none s s refl
event_untold s (events.WritePost name) runs = same_tells_none s s refl
event_untold s (events.Posted post reply) runs =
    posted_either s post reply (λ a. TellsNone s a.service) (same_tells_none s s refl) (λ _ _. back_of_post_untold s post reply)
event_untold s events.Step runs = stepped_untold s (stale_in (answers s) (base s) (unfolded s))
event_untold s (events.Order command token who i) runs = where_untold s command token who i (ordered token s.journal)
