-- What comes back of a post, and a token that is taken, keep how entries and replies follow from the journal.
use Rattle.std.proofs.Common.{◌≡◌, ℕ, ◌≤◌, true, not, ◌&&◌, cond, List, [], ◌∷◌, ◌++◌, Option, Some, None, IsSome, IsSomeAnd, Ok, Err, find, length, option_map, refl, sym, ap, ◌∙◌, subst, nat_eq, nat_le, arith, eqb-true, leb-true}
use Rattle.std.proofs.lemmas.Bool.{cond_both, cond-true, and_parts}
use Rattle.std.proofs.lemmas.List.Sums.{fold_push}
use Rattle.lang_base.specs.Texts.{same_text}
use Rattle.lang_core.specs.Origins.{is_call}
use Rattle.lang_core.specs.declared.ids.Origin.{Origin}
use Rattle.lang_core.specs.declared.ids.Origin.TheVariants.{Outside, Call}
use Rattle.request_log.specs.Entries.{has_id}
use Rattle.request_log.specs.declared.entry.Entry.{Entry}
use Rattle.repair_messages.specs.declared.messages.AnswerMessage.{AnswerMessage}
use Rattle.repair_messages.specs.declared.messages.Confirm.{Confirm}
use Rattle.repair_messages.specs.declared.messages.TokenMessage.{TokenMessage}
use Rattle.repair_messages.specs.declared.posts.Post.{Post}
use Rattle.repair_messages.specs.declared.posts.Post.TheVariants.{Set, Token, Fetch}
use Rattle.journal_rows.specs.Words.{asked, noted_at, count_step, answered_step, mark_step, last_mark, settles}
use Rattle.journal_rows.specs.declared.caller.NotedRow.{NotedRow}
use Rattle.journal_rows.specs.declared.row.Row.{Row}
use Rattle.journal_rows.specs.declared.words.Mark.TheVariants.{Unsettled, ConfirmedAt}
use Rattle.call_registers.specs.Registers.{is_news, is_newer, register}
use Rattle.call_registers.specs.Replies.{has_entry, reply, at_entry, with_confirm, with_hold}
use Rattle.call_registers.specs.declared.register.Hold.{Hold}
use Rattle.call_registers.specs.declared.register.Register.{Register}
use Rattle.call_registers.specs.declared.reply.Reply.{Reply}
use Rattle.service_events.specs.Calls.{noted}
use Rattle.service_events.specs.Fits.{IsAsNow, HasAnswered, HasReply, IsReply, made_as, asked_as, answer_given}
use Rattle.service_events.specs.Messages.{heard, noted_row, hear_rule, hear_new, confirmed_row, token_taken_by, token_taken_where, fetched_row, fetched, is_version, had_answer, is_confirm_of, replies_to, had, is_now, hold_of, held_back, held_where, saw_ack_row, was_confirmed_row, posted}
use Rattle.service_events.specs.State.{Kept, after, me}
use Rattle.service_events.specs.declared.answers.PostReply.{PostReply}
use Rattle.service_events.specs.declared.answers.PostReply.TheVariants.{Acked as WasAcked, Confirmed as WasConfirmedBack, Given, Refused, Lost}
use Rattle.service_events.specs.declared.answers.Posted.TheVariants.{Saw, Knew, Held, Left}
use Rattle.service_events.specs.declared.refusals.AnswerRefused.{AnswerRefused}
use Rattle.service_events.proofs.AskedLemmas.{hear_either}
use Rattle.service_events.proofs.CallerLaws.{callers_logged}
use Rattle.service_events.proofs.EntryLemmas.{asks_same_after, made_from, version_given, still_called, found_itself}
use Rattle.service_events.proofs.LiveEntryLaws.{LeavesLogged}
use Rattle.service_events.proofs.LogLemmas.{itself, with_same}
use Rattle.service_events.proofs.PartLemmas.{IsLogged, logged_one, as_now_same}
use Rattle.service_events.proofs.ReplyLemmas.{change_own, change_other, rising_change, all_change}
use Rattle.service_events.proofs.HoldLaw.{replies_changed}
use Rattle.service_events.proofs.SearchLemmas.{splits, found_all, text_is}

-- ---- a token is taken

module _ (s : Kept) (h : IsLogged s.journal s.entries s.replies) (a : TokenMessage) where
  token_taken_by_logged : (r : Register) → LeavesLogged (token_taken_by s a r)
  token_taken_by_logged r =
      cond_both (not (same_text r.dest a.callee)) (after s (Err (AnswerRefused.Unknown a.number)))
      (cond (is_news r a.answer_version) (hear_new s a r) (after (noted (confirmed_row a ∷ []) s) (Ok (heard a None)))) LeavesLogged
      (λ _. h)
      (λ _. cond_both (is_news r a.answer_version) (hear_new s a r) (after (noted (confirmed_row a ∷ []) s) (Ok (heard a None))) LeavesLogged
      (λ _. hear_either s a r LeavesLogged h h (λ _. callers_logged s.journal (noted_row (hear_rule s a r) a ∷ (confirmed_row a ∷ [])) s.entries s.replies (tt, (tt, tt)) h))
      (λ _. callers_logged s.journal (confirmed_row a ∷ []) s.entries s.replies (tt, tt) h))

  pub token_taken_where_logged : (o : Option Register) → LeavesLogged (token_taken_where s a o)
  token_taken_where_logged None = h
  token_taken_where_logged (Some r) = token_taken_by_logged r

-- ---- an answer that was fetched

module _ (s : Kept) (h : IsLogged s.journal s.entries s.replies) (a : AnswerMessage) where
  pub fetched_logged : (o : Option Register) (n : Option NotedRow) → LeavesLogged (fetched s a o n)
  fetched_logged None n = h
  fetched_logged (Some r) None = h
  fetched_logged (Some r) (Some n) =
      cond_both (is_newer r.answer a.answer_version) (after (noted (fetched_row a n ∷ []) s) (Ok Saw)) (after s (Ok Knew)) LeavesLogged
      (λ _. callers_logged s.journal (fetched_row a n ∷ []) s.entries s.replies (tt, tt) h) (λ _. h)

-- ---- a confirmation of a token

-- the reply that is there is of an entry
pub record IsOfEntry (j : List Row) (log : List Entry) (p : Reply) : Type 0 where
  pub entry : Entry
  pub found : find (has_id p.id) log ≡ Some entry
  pub from : entry.origin ≡ Call p.caller p.number
  pub reply : IsReply j p.caller p.number entry p

some_is : (o : Option Entry) → IsSome o → (e : Entry) × (o ≡ Some e)
some_is None h = cc
some_is (Some e) h = (e, refl)

of_origin : (j : List Row) (log : List Entry) (kept : List Reply) (e : Entry) (p : Reply) → find (has_id p.id) log ≡ Some e → reply p.id kept ≡ Some p → e.id ≡ p.id
    → (o : Origin) → e.origin ≡ o → HasReply j kept e o → IsOfEntry j log p
of_origin j log kept e p found there id Outside from h =
    (let none : reply p.id kept ≡ None = ap (λ k. reply k kept) (sym id) ∙ h in cc)
of_origin j log kept e p found there id (Call c n) from h =
    let here : IsReply j c n e p = subst (λ o. IsSomeAnd o (IsReply j c n e)) (ap (λ k. reply k kept) id ∙ there) h in
    let origin : e.origin ≡ Call p.caller p.number = from ∙ ap (λ x. Call x n) (sym here.caller) ∙ ap (λ m. Call p.caller m) (sym here.number) in
    record {
      entry = e;
      found = found;
      from = origin;
      reply = record {
        caller = refl;
        number = refl;
        version = here.version;
        wanted = here.wanted;
        answer_version = here.answer_version;
        due = here.due ∙ ap (λ x. e.wanted && not (settles e.answer_version (last_mark e.id x n j))) (sym here.caller) ∙ ap (λ m. e.wanted && not (settles e.answer_version (last_mark e.id p.caller m j))) (sym here.number);
      };
    }

pub of_entry : (j : List Row) (log : List Entry) (kept : List Reply) (id : ℕ) (p : Reply) → IsLogged j log kept → reply id kept ≡ Some p → IsOfEntry j log p
of_entry j log kept id p h there =
    let is : p.id ≡ id = eqb-true p.id id (splits (has_entry id) kept p there).passes in
    let entry = some_is (find (has_id p.id) log) (found_all (λ (r : Reply). IsSome (find (has_id r.id) log)) (has_entry id) kept p h.replies.others there) in
    of_origin j log kept entry.0 p entry.1 (ap (λ k. reply k kept) is ∙ there) (found_itself log p.id entry.0 entry.1) (entry.0).origin refl
    (found_all (λ x. HasReply j kept x x.origin) (has_id p.id) log entry.0 h.replies.entries entry.1)

confirmed_logged : (j : List Row) (log : List Entry) (kept : List Reply) (id : ℕ) (p : Reply) (c : Confirm) (since : ℕ) → IsLogged j log kept → reply id kept ≡ Some p → c.caller ≡ p.caller
    → c.number ≡ p.number → c.answer_version ≤ p.answer_version → IsLogged (j ++ was_confirmed_row c ∷ []) log (at_entry id (with_confirm c.answer_version since) kept)
confirmed_logged j log kept id p c since h there caller number given =
    let of = of_entry j log kept id p h there in
    let e = of.entry in
    let row = was_confirmed_row c in
    let f = with_confirm c.answer_version since in
    let is : p.id ≡ id = eqb-true p.id id (splits (has_entry id) kept p there).passes in
    let mine : e.id ≡ id = found_itself log p.id e of.found ∙ is in
    let found : find (has_id e.id) log ≡ Some e = ap (λ k. find (has_id k) log) (found_itself log p.id e of.found) ∙ of.found in
    let from : e.origin ≡ Call c.caller c.number = of.from ∙ ap (λ x. Call x p.number) (sym caller) ∙ ap (λ m. Call c.caller m) (sym number) in
    let answered = found_all (HasAnswered j) (has_id e.id) log e h.answered.entries found in
    let same = asks_same_after j row e.id e.origin tt in
    let made : Some (made_as e) ≡ option_map asked_as (asked e.id j) = sym (ap (option_map made_as) found) ∙ h.asked.entries e.id in
    let versions = version_given j e answered in
    logged_one j (row ∷ []) log log kept (at_entry id f kept) e
    (record {
      may = record {
        takes = (tt, tt);
        asks = (tt, tt);
        answers = (tt, tt);
        confirms = (
          record {
            id = e.id;
            origin = subst (λ o. IsSomeAnd (asked e.id j) (λ a. a.origin ≡ o)) from (made_from (asked e.id j) e.origin e.inputs made);
            given = (let v = of.reply.answer_version in omega (arith, v, versions, given));
          },
          tt,
        );
      };
      only = (from, tt);
      whole = with_same log e.id e found h.asked.distinct;
      count = h.asked.count ∙ sym (fold_push count_step 0 j row);
      made = made ∙ ap (option_map asked_as) (sym same.made);
      called = still_called j (row ∷ []) log kept e h found;
      now = as_now_same j (j ++ row ∷ []) e same (found_all (IsAsNow j) (has_id e.id) log e h.asked.now found);
      answered = record { answer = answered.answer ∙ ap (option_map answer_given) (sym (fold_push (answered_step e.id) None j row)); first = answered.first };
      replied = subst (λ o. HasReply (j ++ row ∷ []) (at_entry id f kept) e o) (sym from)
          (subst (λ o. IsSomeAnd o (IsReply (j ++ row ∷ []) c.caller c.number e))
          (sym (ap (λ k. reply k (at_entry id f kept)) mine ∙ change_own id f (λ r. refl) kept ∙ ap (option_map f) there))
          (confirmed e of.reply));
      others = λ k other. change_other id f (λ r. refl) k (ap (λ m. nat_eq m k) (sym mine) ∙ other) kept;
      theirs = all_change id f (λ r. refl) (λ k. IsSome (find (has_id k) log)) kept h.replies.others;
      rising = rising_change id f (λ r. refl) kept h.replies.rising;
    })
    h
  where
    confirmed : (e : Entry) → IsReply j p.caller p.number e p → IsReply (j ++ was_confirmed_row c ∷ []) c.caller c.number e (with_confirm c.answer_version since p)
    confirmed e r = record {
      caller = sym caller;
      number = sym number;
      version = r.version;
      wanted = r.wanted;
      answer_version = r.answer_version;
      due = (λ i. r.wanted i && not (nat_eq c.answer_version (r.answer_version i)))
          ∙ ap (λ k. e.wanted && not (settles e.answer_version k))
          (sym (fold_push (mark_step e.id c.caller c.number) Unsettled j (was_confirmed_row c)
          ∙ cond-true (is_call c.caller c.number (Call c.caller c.number)) (ConfirmedAt c.answer_version) (last_mark e.id c.caller c.number j) (itself c.caller c.number)));
    }

-- ---- what comes back

had_it : (a : TokenMessage) (o : Option Reply) → had_answer a o ≡ true → (p : Reply) × (o ≡ Some p) × (p.caller ≡ a.caller) × (p.number ≡ a.number) × (a.answer_version ≤ p.answer_version)
had_it a None h = cc
had_it a (Some p) h =
    let first = and_parts (same_text p.caller a.caller && nat_eq p.number a.number) (is_version a.answer_version p.answer_version) h in
    let second = and_parts (same_text p.caller a.caller) (nat_eq p.number a.number) first.0 in
    let third = and_parts (nat_le 1 a.answer_version) (nat_le a.answer_version p.answer_version) first.1 in
    (p, refl, text_is p.caller a.caller second.0, eqb-true p.number a.number second.1, leb-true a.answer_version p.answer_version third.1)

of_it : (a : TokenMessage) (c : Confirm) → is_confirm_of a c ≡ true → (c.caller ≡ a.caller) × (c.number ≡ a.number) × (c.answer_version ≡ a.answer_version)
of_it a c h =
    let first = and_parts ((same_text c.caller a.caller && same_text c.callee a.callee) && nat_eq c.number a.number) (nat_eq c.answer_version a.answer_version) h in
    let second = and_parts (same_text c.caller a.caller && same_text c.callee a.callee) (nat_eq c.number a.number) first.0 in
    let third = and_parts (same_text c.caller a.caller) (same_text c.callee a.callee) second.0 in
    (text_is c.caller a.caller third.0, eqb-true c.number a.number second.1, eqb-true c.answer_version a.answer_version first.1)

module _ (s : Kept) (h : IsLogged s.journal s.entries s.replies) where
  held_logged : (post : Post) (hold : Hold) → IsLogged (held_back s post hold).journal (held_back s post hold).entries (held_back s post hold).replies
  held_logged (Set set) hold = h
  held_logged (Fetch f) hold = h
  held_logged (Token a) hold = replies_changed s.journal s.entries s.replies a.id (with_hold hold) (λ p. record { id = refl; caller = refl; number = refl; version = refl; wanted = refl; answer_version = refl; due = refl }) h

  held_where_logged : (post : Post) (o : Option Hold) → LeavesLogged (held_where s post o)
  held_where_logged post None = h
  held_where_logged post (Some hold) =
      cond_both (is_now s post) (after (held_back s post hold) (Ok Held)) (after s (Ok Left)) LeavesLogged (λ _. held_logged post hold) (λ _. h)

  pub posted_logged_by : (post : Post) (answer : PostReply) → had s post ≡ true → replies_to post answer ≡ true → LeavesLogged (posted s post answer)
  posted_logged_by post (WasAcked ack) had replies = callers_logged s.journal (saw_ack_row ack ∷ []) s.entries s.replies (tt, tt) h
  posted_logged_by (Set set) (WasConfirmedBack c) had replies = cc
  posted_logged_by (Fetch f) (WasConfirmedBack c) had replies = cc
  posted_logged_by post (Given a) had replies = fetched_logged s h a (register a.number s.registers) (noted_at a.number a.answer_version s.journal)
  posted_logged_by (Token a) (WasConfirmedBack c) had replies =
      let it = had_it a (reply a.id s.replies) (and_parts (same_text a.callee (me s)) (had_answer a (reply a.id s.replies)) had).1 in
      let of = of_it a c replies in
      let most = it.4 in
      let same = of.2 in
      confirmed_logged s.journal s.entries s.replies a.id it.0 c (length s.journal) h it.1 (of.0 ∙ sym it.2) (of.1 ∙ sym it.3) (omega (arith, most, same))
  posted_logged_by post (Refused word number) had replies = held_where_logged post (hold_of word number)
  posted_logged_by post (Lost note) had replies = h
