-- Events of messages and orders keep the ages of calls and replies.
use Rattle.std.proofs.Common.{◌≡◌, ℕ, ◌+◌, Bool, true, false, ◌&&◌, not, List, [], ◌∷◌, ◌++◌, Option, Some, None, Ok, Err, length, is_some, nat_eq, refl, sym, ap, ◌∙◌, inl, inr, arith, eqb-true, eq-eqb, if◌then◌else◌}
use Rattle.std.specs.Cmp.Lexicographic.{nat_list_eq_equiv}
use Rattle.std.proofs.lemmas.Bool.{cond_both, and_parts, and_from}
use Rattle.lang_base.specs.Texts.{same_text}
use Rattle.lang_core.specs.declared.inputs.Inputs.{Inputs}
use Rattle.lang_core.specs.declared.request.Request.{Request}
use Rattle.request_log.specs.Entries.{has_id, find_call}
use Rattle.request_log.specs.declared.entry.Entry.{Entry}
use Rattle.repair_messages.specs.declared.messages.AnswerMessage.{AnswerMessage}
use Rattle.repair_messages.specs.declared.messages.Confirm.{Confirm}
use Rattle.repair_messages.specs.declared.messages.SetMessage.{SetMessage}
use Rattle.repair_messages.specs.declared.messages.TokenMessage.{TokenMessage}
use Rattle.repair_messages.specs.declared.posts.Post.{Post}
use Rattle.repair_messages.specs.declared.posts.Post.TheVariants.{Set, Token, Fetch}
use Rattle.repair_messages.specs.declared.posts.PostName.TheVariants.{Call as OfCall, Reply as OfReply, Fetch as OfFetch}
use Rattle.journal_rows.specs.Words.{noted_at}
use Rattle.journal_rows.specs.declared.caller.NotedRow.{NotedRow}
use Rattle.journal_rows.specs.declared.orders.Command.{Command}
use Rattle.journal_rows.specs.declared.orders.Command.TheVariants.{Cancel, Restore, Replace, Create, Retry, Fold, Deploy, Correct, Rules}
use Rattle.journal_rows.specs.declared.orders.OrderedRow.{OrderedRow}
use Rattle.journal_rows.specs.declared.row.Row.{Row}
use Rattle.call_registers.specs.Registers.{is_news, is_newer, register, with_hold, released}
use Rattle.call_registers.specs.Replies.{has_entry, reply, at_entry, with_taken, with_confirm, made_due, with_hold as with_reply_hold, released as released_reply}
use Rattle.call_registers.specs.declared.register.Hold.{Hold}
use Rattle.call_registers.specs.declared.register.Register.{Register}
use Rattle.call_registers.specs.declared.reply.Reply.{Reply}
use Rattle.service_events.specs.Ages.{marks_reply}
use Rattle.service_events.specs.Calls.{noted}
use Rattle.service_events.specs.Fits.{Fits}
use Rattle.service_events.specs.Messages.{take_new, origin_of, is_known, acked_row, created_row, took_row, at_reply_of, acked_again, created_reply, taken_by, taken, take_admitted, noted_row, hear_rule, hear_new, confirmed_row, heard, token_taken_where, fetched_row, fetched, had, had_answer, is_version, replies_to, is_now, hold_of, held_back, held_where, saw_ack_row, was_confirmed_row, posted}
use Rattle.service_events.specs.Orders.{refused, asked_rows, order_rows, carried_out, order_by, order_where}
use Rattle.service_events.specs.State.{Kept, After, after, me}
use Rattle.service_events.specs.declared.answers.PostReply.{PostReply}
use Rattle.service_events.specs.declared.answers.PostReply.TheVariants.{Acked as WasAcked, Confirmed as WasConfirmedBack, Given, Refused, Lost}
use Rattle.service_events.specs.declared.answers.Posted.TheVariants.{Saw, Knew, Held, Left}
use Rattle.service_events.specs.declared.refusals.AnswerRefused.TheVariants.{Unknown}
use Rattle.service_events.specs.declared.refusals.OrderRefused.{OrderRefused}
use Rattle.service_events.proofs.AskedLemmas.{take_either, hear_either}
use Rattle.service_events.proofs.PostedLaw.{IsOfEntry}
use Rattle.service_events.proofs.SearchLemmas.{some_or_none, splits, text_is}
use Rattle.service_events.proofs.FlightLemmas.{each_found}
use Rattle.service_events.proofs.CallRowLemmas.{Each, each_append, each_weaker}
use Rattle.service_parts.proofs.AgeLaws.{AllMarked, GoesAged, aged_same, aged_step, step_noted, step_marked}
use Rattle.service_parts.proofs.AgeLemmas.{Ages, ages_stay, ages_noted, ages_then, ages_same, KeepsAge, IsMarked, IsUnmarked, MarksNone, unmarked, unmarked-append, replies_stay, reply_marked, replies_kept, none_any, last_here}
use Rattle.service_parts.proofs.OwnedLemmas.{is_to, owned, to_its, to_none, to_others, to_own}

-- what an event leaves has its ages
abbrev LeavesAged : {A : Type 0} → Kept → After A → Type 0
LeavesAged s a = GoesAged s a.service

-- ---- a version of a call

-- rows that mark no reply, and then the acknowledgement of a call
module _ (s : Kept) (f : Fits s) (set : SetMessage) (rows : List Row) (none : Each MarksNone rows) where
  abbrev all_rows : List Row
  all_rows = rows ++ acked_row set ∷ []

  abbrev index : ℕ
  index = length s.journal + length rows

  apart : (p : Reply) → is_to set.caller set.number p ≡ false → IsUnmarked all_rows p
  apart p other = unmarked-append p rows (acked_row set ∷ []) (unmarked p rows none) (none_any (marks_reply p) (acked_row set) other)

  -- no reply is to the call
  acked_none : find_call (origin_of set) s.entries ≡ None → AllMarked s → Each (IsMarked (s.journal ++ all_rows)) s.replies
  acked_none absent h =
      replies_stay s.journal all_rows s.replies
      (each_weaker (λ (p : Reply). is_to set.caller set.number p ≡ false) (IsUnmarked all_rows) apart s.replies (to_none s f set.caller set.number absent)) h

  -- the reply to the call is as old as this row
  acked_own : (e : Entry) (g : Reply → Reply) → find_call (origin_of set) s.entries ≡ Some e
      → ((p : Reply) → ((g p).id ≡ p.id) × ((g p).caller ≡ p.caller) × ((g p).number ≡ p.number) × ((g p).since ≡ index))
      → AllMarked s → Each (IsMarked (s.journal ++ all_rows)) (at_entry e.id g s.replies)
  acked_own e g found keeps h =
      reply_marked s.journal all_rows e.id g s.replies f.replies.rising
      (each_weaker (λ (p : Reply). nat_eq p.id e.id ≡ true → is_to set.caller set.number p ≡ true)
      (λ (p : Reply). nat_eq p.id e.id ≡ true → IsMarked (s.journal ++ all_rows) (g p))
      (λ p to is.
      let k = keeps p in
      let here = last_here (marks_reply (g p)) s.journal rows (acked_row set) [] (g p).since (sym k.3)
      (ap (λ c. same_text set.caller c && nat_eq set.number (g p).number) k.1 ∙ ap (λ n. same_text set.caller p.caller && nat_eq set.number n) k.2 ∙ to is) refl in
      here) s.replies (to_own s f set.caller set.number e found))
      (each_weaker (λ (p : Reply). nat_eq p.id e.id ≡ false → is_to set.caller set.number p ≡ false) (λ (p : Reply). nat_eq p.id e.id ≡ false → IsUnmarked all_rows p)
      (λ p to other. apart p (to other)) s.replies (to_others s f set.caller set.number e found)) h

again_marked : (s : Kept) (f : Fits s) (set : SetMessage) (e : Option Entry) → find_call (origin_of set) s.entries ≡ e → AllMarked s
    → Each (IsMarked (s.journal ++ acked_row set ∷ [])) (at_reply_of e (made_due (length s.journal)) s.replies)
again_marked s f set None is h = acked_none s f set [] tt is h
again_marked s f set (Some e) is h = acked_own s f set [] tt e (made_due (length s.journal)) is (λ p. (refl, refl, refl, omega arith)) h

again_aged : (s : Kept) (f : Fits s) (set : SetMessage) → GoesAged s (acked_again s set)
again_aged s f set = record {
  calls = ages_noted s (acked_again s set) (acked_row set ∷ []) refl refl;
  replies = λ _. again_marked s f set (find_call (origin_of set) s.entries) refl;
}

taken_aged : (s : Kept) (f : Fits s) (set : SetMessage) (i : Inputs) (e : Option Entry) (d : Option Request) → find_call (origin_of set) s.entries ≡ e
    → GoesAged s (taken_by s set i e d)
taken_aged s f set i (Some e) d is = record {
  calls = ages_noted s (taken_by s set i (Some e) d) (took_row s set ∷ (acked_row set ∷ [])) refl refl;
  replies = λ _. acked_own s f set (took_row s set ∷ []) (tt, tt) e (λ p. made_due (length s.journal + 1) (with_taken set.version (is_some set.desired) p)) is (λ p. (refl, refl, refl, omega arith));
}
taken_aged s f set i None (Some q) is =
    let asks = created_row s set q i in
    let rows = took_row s set ∷ (asks ∷ []) in
    let it = and_from (same_text set.caller set.caller) (nat_eq set.number set.number) (nat_list_eq_equiv.refl set.caller) (eq-eqb set.number set.number refl) in record {
      calls = ages_noted s (taken_by s set i None (Some q)) (took_row s set ∷ (asks ∷ (acked_row set ∷ []))) refl refl;
      replies = λ _ h. each_append (IsMarked (s.journal ++ (rows ++ acked_row set ∷ []))) s.replies (created_reply s set ∷ [])
          (acked_none s f set rows (tt, (tt, tt)) is h)
          (last_here (marks_reply (created_reply s set)) s.journal rows (acked_row set) [] (length s.journal + 2) refl it refl, tt);
    }
taken_aged s f set i None None is = record {
  calls = ages_noted s (taken_by s set i None None) (took_row s set ∷ (acked_row set ∷ [])) refl refl;
  replies = λ _. acked_none s f set (took_row s set ∷ []) (tt, tt) is;
}

pub take_admitted_aged : (s : Kept) (f : Fits s) (set : SetMessage) (i : Inputs) (n : Option ℕ) → LeavesAged s (take_admitted s set i n)
take_admitted_aged s f set i (Some n) = aged_same s
take_admitted_aged s f set i None =
    cond_both (is_known s set) (after (acked_again s set) (Ok (taken set None)))
    (take_new s set i) (LeavesAged s)
    (λ _. again_aged s f set)
    (λ _. take_either s set i (LeavesAged s) (λ e. aged_same s) (aged_same s) (λ _. taken_aged s f set i (find_call (origin_of set) s.entries) set.desired refl))

-- ---- a token

pub heard_aged : (s : Kept) (a : TokenMessage) (o : Option Register) → LeavesAged s (token_taken_where s a o)
heard_aged s a None = aged_same s
heard_aged s a (Some r) = by_test (not (same_text r.dest a.callee)) (is_news r a.answer_version)
  where
    by_test : (b c : Bool)
        → LeavesAged s
        (if b then after s (Err (Unknown a.number))
        else (if c
        then hear_new s a r
        else after (noted (confirmed_row a ∷ []) s) (Ok (heard a None))))
    by_test true c = aged_same s
    by_test false true =
        let rows = noted_row (hear_rule s a r) a ∷ (confirmed_row a ∷ []) in
        hear_either s a r (LeavesAged s) (aged_same s) (aged_same s)
        (λ _. aged_step s (noted rows s) (step_noted s (noted rows s) rows (tt, (tt, tt)) refl refl refl refl))
    by_test false false =
        let rows = confirmed_row a ∷ [] in
        aged_step s (noted rows s) (step_noted s (noted rows s) rows (tt, tt) refl refl refl refl)

-- ---- what comes back of a post

hold_keeps : (hold : Hold) → KeepsAge (with_hold hold)
hold_keeps hold r = refl

held_back_aged : (s : Kept) (post : Post) (hold : Hold) → GoesAged s (held_back s post hold)
held_back_aged s (Set set) hold =
    record { calls = ages_stay s (held_back s (Set set) hold) refl (ages_same set.number (with_hold hold) s.registers (hold_keeps hold)); replies = λ _ h. h }
held_back_aged s (Fetch f) hold = aged_same s
held_back_aged s (Token a) hold = record {
  calls = ages_stay s (held_back s (Token a) hold) refl refl;
  replies = λ _. replies_kept s.journal a.id (with_reply_hold hold) s.replies (λ p m. m);
}

held_aged : (s : Kept) (post : Post) (hold : Option Hold) → LeavesAged s (held_where s post hold)
held_aged s post None = aged_same s
held_aged s post (Some hold) =
    cond_both (is_now s post) (after (held_back s post hold) (Ok Held)) (after s (Ok Left)) (LeavesAged s)
    (λ _. held_back_aged s post hold) (λ _. aged_same s)

not_both : false ≡ true → ⊥
not_both h = cc

-- a confirmation marks the reply that was posted
module _ (s : Kept) (f : Fits s) (a : TokenMessage) (c : Confirm) (had_it : had s (Token a) ≡ true) (answers : replies_to (Token a) (WasConfirmedBack c) ≡ true) where
  abbrev row : Row
  row = was_confirmed_row c

  -- the confirmation is of the answer to this call
  of_call : (c.caller ≡ a.caller) × (c.number ≡ a.number)
  of_call =
      let one =
      and_parts (same_text c.caller a.caller && same_text c.callee a.callee && nat_eq c.number a.number) (nat_eq c.answer_version a.answer_version) answers in
      let two = and_parts (same_text c.caller a.caller && same_text c.callee a.callee) (nat_eq c.number a.number) one.0 in
      let three = and_parts (same_text c.caller a.caller) (same_text c.callee a.callee) two.0 in
      (text_is c.caller a.caller three.0, eqb-true c.number a.number two.1)

  -- so is the reply of that number
  is_its : (o : Option Reply) (p : Reply) → o ≡ Some p → had_answer a o ≡ true → (p.caller ≡ a.caller) × (p.number ≡ a.number)
  is_its None p e h = cc
  is_its (Some q) p e h =
      let same : q ≡ p = cc in
      let one = and_parts (same_text q.caller a.caller && nat_eq q.number a.number) (is_version a.answer_version q.answer_version) h in
      let two = and_parts (same_text q.caller a.caller) (nat_eq q.number a.number) one.0 in (
        ap (λ (x : Reply). x.caller) (sym same) ∙ text_is q.caller a.caller two.0,
        ap (λ (x : Reply). x.number) (sym same) ∙ eqb-true q.number a.number two.1,
      )

  its : (p : Reply) → reply a.id s.replies ≡ Some p → (p.caller ≡ a.caller) × (p.number ≡ a.number)
  its p e = is_its (reply a.id s.replies) p e (and_parts (same_text a.callee (me s)) (had_answer a (reply a.id s.replies)) had_it).1

  abbrev marked : List Reply
  marked = at_entry a.id (with_confirm c.answer_version (length s.journal)) s.replies

  confirmed_by : (p : Reply) → reply a.id s.replies ≡ Some p → AllMarked s → Each (IsMarked (s.journal ++ row ∷ [])) marked
  confirmed_by p found h =
      let w = each_found (IsOfEntry s.journal s.entries) (has_entry a.id) s.replies p found (owned s f) in
      let own = its p found in
      let to : is_to c.caller c.number p ≡ true =
      and_from (same_text c.caller p.caller) (nat_eq c.number p.number)
      (ap (same_text c.caller) (own.0 ∙ sym of_call.0) ∙ nat_list_eq_equiv.refl c.caller) (eq-eqb c.number p.number (of_call.1 ∙ sym own.1)) in
      let call = to_its s f c.caller c.number p w to in
      let id : w.entry.id ≡ a.id =
      eqb-true w.entry.id p.id (splits (has_id p.id) s.entries w.entry w.found).passes ∙ eqb-true p.id a.id (splits (has_entry a.id) s.replies p found).passes in
      reply_marked s.journal (row ∷ []) a.id (with_confirm c.answer_version (length s.journal)) s.replies f.replies.rising
      (each_weaker (λ (x : Reply). nat_eq x.id w.entry.id ≡ true → is_to c.caller c.number x ≡ true)
      (λ (x : Reply). nat_eq x.id a.id ≡ true → IsMarked (s.journal ++ row ∷ []) (with_confirm c.answer_version (length s.journal) x))
      (λ x mine is.
      last_here (marks_reply x) s.journal [] row [] (length s.journal) (omega arith) (mine (ap (nat_eq x.id) id ∙ is)) refl) s.replies (to_own s f c.caller c.number w.entry call))
      (each_weaker (λ (x : Reply). nat_eq x.id w.entry.id ≡ false → is_to c.caller c.number x ≡ false) (λ (x : Reply). nat_eq x.id a.id ≡ false → IsUnmarked (row ∷ []) x)
      (λ x mine other. none_any (marks_reply x) row (mine (ap (nat_eq x.id) id ∙ other))) s.replies (to_others s f c.caller c.number w.entry call)) h

  confirmed_marked : AllMarked s → Each (IsMarked (s.journal ++ row ∷ [])) marked
  confirmed_marked h = elim (some_or_none (reply a.id s.replies)) [
    | inl none ↦ (let never : false ≡ true =
        ap (had_answer a) (sym none) ∙ (and_parts (same_text a.callee (me s)) (had_answer a (reply a.id s.replies)) had_it).1 in
        absurd (not_both never))
    | inr some ↦ confirmed_by some.0 some.1 h
  ]

-- an answer that was fetched
fetched_aged : (s : Kept) (a : AnswerMessage) (o : Option Register) (n : Option NotedRow) → LeavesAged s (fetched s a o n)
fetched_aged s a None n = aged_same s
fetched_aged s a (Some r) None = aged_same s
fetched_aged s a (Some r) (Some n) =
    let rows = fetched_row a n ∷ [] in
    cond_both (is_newer r.answer a.answer_version) (after (noted rows s) (Ok Saw)) (after s (Ok Knew)) (LeavesAged s)
    (λ _. aged_step s (noted rows s) (step_noted s (noted rows s) rows (tt, tt) refl refl refl refl)) (λ _. aged_same s)

pub reply_aged : (s : Kept) (f : Fits s) (post : Post) (answer : PostReply) → had s post ≡ true → replies_to post answer ≡ true → LeavesAged s (posted s post answer)
reply_aged s f post (WasAcked ack) h r =
    let rows = saw_ack_row ack ∷ [] in aged_step s (noted rows s) (step_noted s (noted rows s) rows (tt, tt) refl refl refl refl)
reply_aged s f (Set set) (WasConfirmedBack c) h r = absurd (not_both r)
reply_aged s f (Fetch x) (WasConfirmedBack c) h r = absurd (not_both r)
reply_aged s f post (Given a) h r = fetched_aged s a (register a.number s.registers) (noted_at a.number a.answer_version s.journal)
reply_aged s f (Token a) (WasConfirmedBack c) h r = record {
  calls = ages_noted s (posted s (Token a) (WasConfirmedBack c)).service (was_confirmed_row c ∷ []) refl refl;
  replies = λ _. confirmed_marked s f a c h r;
}
reply_aged s f post (Refused word number) h r = held_aged s post (hold_of word number)
reply_aged s f post (Lost note) h r = aged_same s

-- ---- an order

release_keeps : (who : List ℕ) → KeepsAge (released who)
release_keeps who r = refl

carried_calls : (s : Kept) (command : Command) (who : List ℕ) (i : Inputs) → Ages s (carried_out s command who i)
carried_calls s (Cancel id) who i = ages_stay s (carried_out s (Cancel id) who i) refl refl
carried_calls s (Restore id) who i = ages_stay s (carried_out s (Restore id) who i) refl refl
carried_calls s (Replace id method path body) who i = ages_stay s (carried_out s (Replace id method path body) who i) refl refl
carried_calls s (Create before behind q) who i = ages_stay s (carried_out s (Create before behind q) who i) refl refl
carried_calls s (Retry (OfCall number)) who i =
    ages_stay s (carried_out s (Retry (OfCall number)) who i) refl (ages_same number (released who) s.registers (release_keeps who))
carried_calls s (Retry (OfReply id)) who i = ages_stay s (carried_out s (Retry (OfReply id)) who i) refl refl
carried_calls s (Retry (OfFetch number)) who i = ages_stay s (carried_out s (Retry (OfFetch number)) who i) refl refl
carried_calls s (Fold id) who i = ages_stay s (carried_out s (Fold id) who i) refl refl
carried_calls s (Deploy p) who i = ages_stay s (carried_out s (Deploy p) who i) refl refl
carried_calls s (Correct k p) who i = ages_stay s (carried_out s (Correct k p) who i) refl refl
carried_calls s (Rules g) who i = ages_stay s (carried_out s (Rules g) who i) refl refl

carried_marked : (s : Kept) (command : Command) (who : List ℕ) (i : Inputs) → AllMarked s → AllMarked (carried_out s command who i)
carried_marked s (Cancel id) who i h = h
carried_marked s (Restore id) who i h = h
carried_marked s (Replace id method path body) who i h = h
carried_marked s (Create before behind q) who i h = h
carried_marked s (Retry (OfCall number)) who i h = h
carried_marked s (Retry (OfFetch number)) who i h = h
carried_marked s (Fold id) who i h = h
carried_marked s (Deploy p) who i h = h
carried_marked s (Correct k p) who i h = h
carried_marked s (Rules g) who i h = h
carried_marked s (Retry (OfReply id)) who i h = replies_kept s.journal id (released_reply who) s.replies (λ p m. m) h

asked_none : (s : Kept) (command : Command) (i : Inputs) → Each MarksNone (asked_rows s command i)
asked_none s (Create before behind q) i = (tt, tt)
asked_none s (Cancel id) i = tt
asked_none s (Restore id) i = tt
asked_none s (Replace id method path body) i = tt
asked_none s (Retry name) i = tt
asked_none s (Fold id) i = tt
asked_none s (Deploy p) i = tt
asked_none s (Correct k p) i = tt
asked_none s (Rules g) i = tt

by_aged : (s : Kept) (command : Command) (token who : List ℕ) (i : Inputs) (why : Option OrderRefused) → LeavesAged s (order_by s command token who i why)
by_aged s command token who i (Some why) = aged_same s
by_aged s command token who i None =
    let mid = carried_out s command who i in
    let rows = order_rows s command token who i in
    let step = step_noted mid (noted rows mid) rows (tt, asked_none s command i) refl refl refl refl in
    record {
      calls = ages_then s mid (noted rows mid) (carried_calls s command who i) step.calls;
      replies = λ _ h. step_marked mid (noted rows mid) step (carried_marked s command who i h);
    }

pub order_where_aged : (s : Kept) (command : Command) (token who : List ℕ) (i : Inputs) (o : Option OrderedRow) → LeavesAged s (order_where s command token who i o)
order_where_aged s command token who i (Some o) = aged_same s
order_where_aged s command token who i None = by_aged s command token who i (refused s command who)
