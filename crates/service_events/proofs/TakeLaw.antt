-- A version of a call that a message brings is taken, and entries and replies still follow from the journal.
use Rattle.std.proofs.Common.{◌≡◌, ℕ, ◌+◌, ◌<◌, ◌≤◌, Bool, true, false, not, ◌&&◌, ◌||◌, List, [], ◌∷◌, ◌++◌, Option, Some, None, IsSome, IsSomeAnd, Ok, find, insert, length, is_some, option_map, refl, sym, ap, ◌∙◌, subst, nat_eq, arith, eq-eqb, length-set, leb-true, leb-false}
use Rattle.std.specs.List.{position_or_len, list_any}
use Rattle.std.specs.Option.{option_map_or}
use Rattle.std.proofs.lemmas.Bool.{cond_both, cond-true, or_right, false_from_ne_true}
use Rattle.std.proofs.lemmas.List.Elements.{All-push}
use Rattle.std.proofs.lemmas.List.Folds.{list_any-append}
use Rattle.std.proofs.lemmas.List.Sums.{fold_push, fold-append}
use Rattle.lang_core.specs.Origins.{is_call}
use Rattle.lang_core.specs.declared.ids.Origin.TheVariants.{Call}
use Rattle.lang_core.specs.declared.inputs.Inputs.{Inputs}
use Rattle.lang_core.specs.declared.request.Request.{Request}
use Rattle.request_log.specs.Entries.{has_id, find_call, with_entry}
use Rattle.request_log.specs.declared.entry.Entry.{Entry}
use Rattle.repair_messages.specs.declared.messages.SetMessage.{SetMessage}
use Rattle.journal_rows.specs.Words.{first_asked, asked_step, asked, count_step, taken_step, last_taken, version_in, taken_version, taken_version_of, wants, request_step, request_now, struck_step, answered_step, mark_step, last_mark, settles, or_before}
use Rattle.journal_rows.specs.declared.callee.AskedRow.{AskedRow}
use Rattle.journal_rows.specs.declared.callee.TookRow.{TookRow}
use Rattle.journal_rows.specs.declared.callee.TookHow.TheVariants.{Message}
use Rattle.journal_rows.specs.declared.row.Row.{Row}
use Rattle.journal_rows.specs.declared.row.Row.TheVariants.{Asked}
use Rattle.journal_rows.specs.declared.words.Mark.TheVariants.{Unsettled}
use Rattle.call_registers.specs.Replies.{reply, at_entry, with_taken, made_due}
use Rattle.call_registers.specs.declared.reply.Reply.{Reply}
use Rattle.call_registers.proofs.ReplyLemmas.{rising_push}
use Rattle.service_events.specs.Fits.{IsAsNow, HasAnswered, HasReply, IsReply, made_as, asked_as, answer_given, takes_request}
use Rattle.service_events.specs.Messages.{taken, take_rule, take_new, is_known, acked_row, took_row, acked_again, at_reply_of, created_entry, created_reply, created_place, created_row, created_under, at_version, taken_by, take_admitted}
use Rattle.service_events.specs.State.{Kept, after, next_id}
use Rattle.service_events.proofs.AskedLemmas.{take_either}
use Rattle.service_events.proofs.CallerLaws.{all_same}
use Rattle.service_events.proofs.CommitLaw.{took_here}
use Rattle.service_events.proofs.EntryLemmas.{asks_same_after, found_by_call, still_called, and_always}
use Rattle.service_events.proofs.FreshLemmas.{unmade, unfound, unanswered, unstruck, unreplied, below_next, is_new, still_found}
use Rattle.service_events.proofs.LiveEntryLaws.{LeavesLogged}
use Rattle.service_events.proofs.LogLemmas.{itself, with_insert, with_same, with_entry_is}
use Rattle.service_events.proofs.PartLemmas.{IsLogged, MayCome, logged_none, logged_one, as_now_same, request_same}
use Rattle.service_events.proofs.ReplyLemmas.{push_own, push_other, above_all, change_own, change_other, rising_change, all_change}
use Rattle.service_events.proofs.SearchLemmas.{found_all, length_insert, some_and, if_some, or_none, some_none}

module _ (s : Kept) (h : IsLogged s.journal s.entries s.replies) (set : SetMessage) where
  abbrev two : List Row
  two = took_row s set ∷ (acked_row set ∷ [])

  abbrev told : TookRow
  told = record { caller = set.caller; number = set.number; version = set.version; desired = set.desired; how = Message; who = set.who; rule = take_rule s set }

  -- ---- a version that is known is acknowledged again

  known_may : is_known s set ≡ true → MayCome s.journal (acked_row set ∷ [])
  known_may known = record { takes = (leb-true set.version (taken_version set.caller set.number s.journal) known, tt); asks = (tt, tt); answers = (tt, tt); confirms = (tt, tt) }

  acked_none : is_known s set ≡ true → find_call (Call set.caller set.number) s.entries ≡ None → IsLogged (s.journal ++ acked_row set ∷ []) s.entries s.replies
  acked_none known none = logged_none s.journal (acked_row set ∷ []) s.entries s.replies
      (record {
        may = known_may known;
        count = fold_push count_step 0 s.journal (acked_row set);
        made = λ id. fold_push (asked_step id) None s.journal (acked_row set);
        calls = λ d m. list_any-append (takes_request d m) s.journal (acked_row set ∷ []) ∙ or_none (list_any (takes_request d m) s.journal) (list_any (takes_request d m) (acked_row set ∷ [])) refl;
        same = all_same (length s.entries + 1) (Call set.caller set.number) s.journal (acked_row set ∷ []) s.entries (refl, tt) (unfound s.journal s.entries s.replies h) none;
      })
      h

  due_reply : (e : Entry) (since : ℕ) → last_mark e.id set.caller set.number (s.journal ++ acked_row set ∷ []) ≡ Unsettled → (o : Option Reply) → IsSomeAnd o (IsReply s.journal set.caller set.number e)
      → IsSomeAnd (option_map (made_due since) o) (IsReply (s.journal ++ acked_row set ∷ []) set.caller set.number e)
  due_reply e since mark None r = r
  due_reply e since mark (Some p) r = record {
    caller = r.caller;
    number = r.number;
    version = r.version;
    wanted = r.wanted;
    answer_version = r.answer_version;
    due = r.wanted ∙ and_always e.wanted ∙ ap (λ k. e.wanted && not (settles e.answer_version k)) (sym mark);
  }

  replied_by : (e : Entry) → find (has_id e.id) s.entries ≡ Some e → e.origin ≡ Call set.caller set.number → HasReply s.journal s.replies e (Call set.caller set.number)
  replied_by e found from =
      subst (λ o. HasReply s.journal s.replies e o) from (found_all (λ x. HasReply s.journal s.replies x x.origin) (has_id e.id) s.entries e h.replies.entries found)

  acked_some : (e : Entry) → is_known s set ≡ true → find (has_id e.id) s.entries ≡ Some e → e.origin ≡ Call set.caller set.number
      → IsLogged (s.journal ++ acked_row set ∷ []) s.entries (at_entry e.id (made_due (length s.journal)) s.replies)
  acked_some e known found from =
      let rows = acked_row set ∷ [] in
      let f = made_due (length s.journal) in
      let whole = with_same s.entries e.id e found h.asked.distinct in
      let same = asks_same_after s.journal (acked_row set) e.id e.origin tt in
      let mark : last_mark e.id set.caller set.number (s.journal ++ rows) ≡ Unsettled =
      fold_push (mark_step e.id set.caller set.number) Unsettled s.journal (acked_row set)
      ∙ cond-true (is_call set.caller set.number (Call set.caller set.number)) Unsettled (last_mark e.id set.caller set.number s.journal) (itself set.caller set.number) in
      logged_one s.journal rows s.entries s.entries s.replies (at_entry e.id f s.replies) e
      (record {
        may = known_may known;
        only = (from, tt);
        whole = whole;
        count = h.asked.count ∙ sym (fold_push count_step 0 s.journal (acked_row set));
        made = sym (ap (option_map made_as) found) ∙ h.asked.entries e.id ∙ ap (option_map asked_as) (sym same.made);
        called = still_called s.journal rows s.entries s.replies e h found;
        now = as_now_same s.journal (s.journal ++ rows) e same (found_all (IsAsNow s.journal) (has_id e.id) s.entries e h.asked.now found);
        answered = (let old = found_all (HasAnswered s.journal) (has_id e.id) s.entries e h.answered.entries found in
            record { answer = old.answer ∙ ap (option_map answer_given) (sym (fold_push (answered_step e.id) None s.journal (acked_row set))); first = old.first });
        replied = subst (λ o. HasReply (s.journal ++ rows) (at_entry e.id f s.replies) e o) (sym from)
            (subst (λ o. IsSomeAnd o (IsReply (s.journal ++ rows) set.caller set.number e)) (sym (change_own e.id f (λ p. refl) s.replies))
            (due_reply e (length s.journal) mark (reply e.id s.replies) (replied_by e found from)));
        others = λ id other. change_other e.id f (λ p. refl) id other s.replies;
        theirs = all_change e.id f (λ p. refl) (λ k. IsSome (find (has_id k) s.entries)) s.replies h.replies.others;
        rising = rising_change e.id f (λ p. refl) s.replies h.replies.rising;
      })
      h

  again_by : is_known s set ≡ true → (o : Option Entry) → find_call (Call set.caller set.number) s.entries ≡ o
      → IsLogged (s.journal ++ acked_row set ∷ []) s.entries (at_reply_of o (made_due (length s.journal)) s.replies)
  again_by known None is = acked_none known is
  again_by known (Some e) is = (let at = found_by_call s.entries set.caller set.number e h.asked.distinct is in acked_some e known at.1 at.0)

  -- ---- a version that wasn't taken yet

  -- its two rows, or the two ends of its three rows, may come
  above : is_known s set ≡ false → taken_version set.caller set.number s.journal < set.version
  above new = leb-false set.version (taken_version set.caller set.number s.journal) new

  took_last : last_taken set.caller set.number (s.journal ++ took_row s set ∷ [])
      ≡ Some told
  took_last = took_here set.caller set.number s.journal
      told refl refl

  within : set.version ≤ taken_version set.caller set.number (s.journal ++ took_row s set ∷ [])
  within = (let is : taken_version set.caller set.number (s.journal ++ took_row s set ∷ []) ≡ set.version = ap version_in took_last in omega (arith, is))

  two_may : is_known s set ≡ false → MayCome s.journal two
  two_may new = record { takes = ((above new, tt), (within, tt)); asks = (tt, (tt, tt)); answers = (tt, (tt, tt)); confirms = (tt, (tt, tt)) }

  took_none : is_known s set ≡ false → set.desired ≡ None → find_call (Call set.caller set.number) s.entries ≡ None → IsLogged (s.journal ++ two) s.entries s.replies
  took_none new gone none =
      let rows = two in
      logged_none s.journal rows s.entries s.replies
      (record {
        may = two_may new;
        count = fold-append count_step 0 s.journal rows;
        made = λ id. fold-append (asked_step id) None s.journal rows;
        calls = λ d m. list_any-append (takes_request d m) s.journal rows ∙ or_none (list_any (takes_request d m) s.journal) (list_any (takes_request d m) rows) (no_request d m gone);
        same = all_same (length s.entries + 1) (Call set.caller set.number) s.journal rows s.entries (refl, (refl, tt)) (unfound s.journal s.entries s.replies h) none;
      })
      h
    where
      no_request : (d : List ℕ) (m : ℕ) → set.desired ≡ None → list_any (takes_request d m) two ≡ false
      no_request d m gone = rw gone (none_and (is_call d m (Call set.caller set.number)))
        where
          none_and : (b : Bool) → ((b && false) || (false || false)) ≡ false
          none_and true = refl
          none_and false = refl

  -- ---- it is of an entry

  module _ (new : is_known s set ≡ false) (e : Entry) (found : find (has_id e.id) s.entries ≡ Some e) (from : e.origin ≡ Call set.caller set.number) where
    abbrev f : Reply → Reply
    f = λ p. made_due (length s.journal + 1) (with_taken set.version (is_some set.desired) p)

    old : IsAsNow s.journal e
    old = found_all (IsAsNow s.journal) (has_id e.id) s.entries e h.asked.now found

    same_made : asked e.id (s.journal ++ two) ≡ asked e.id s.journal
    same_made = fold-append (asked_step e.id) None s.journal two

    last : last_taken set.caller set.number (s.journal ++ two)
        ≡ Some told
    last = fold-append (taken_step set.caller set.number) None s.journal two
        ∙ cond-true (is_call set.caller set.number (Call set.caller set.number))
        (Some told)
        (last_taken set.caller set.number s.journal) (itself set.caller set.number)

    asks_anew : (first : Request) → request_now e.id (Call set.caller set.number) first (s.journal ++ two) ≡ or_before (request_now e.id (Call set.caller set.number) first s.journal) set.desired
    asks_anew first = fold-append (request_step e.id (Call set.caller set.number)) first s.journal two
        ∙ cond-true (is_call set.caller set.number (Call set.caller set.number)) (or_before (request_now e.id (Call set.caller set.number) first s.journal) set.desired)
        (request_now e.id (Call set.caller set.number) first s.journal) (itself set.caller set.number)

    now_is : IsAsNow (s.journal ++ two) (at_version set e)
    now_is = record {
      version = sym (ap (λ o. taken_version_of o (s.journal ++ two)) from ∙ ap version_in last);
      wanted = sym (ap (λ o. wants o (s.journal ++ two)) from ∙ ap (λ o. option_map_or (λ (t : TookRow). is_some t.desired) o false) last);
      request = request_same (asked e.id s.journal) (asked e.id (s.journal ++ two)) (λ a. e.request ≡ request_now e.id e.origin a.request s.journal)
          (λ a. or_before e.request set.desired ≡ request_now e.id e.origin a.request (s.journal ++ two)) same_made
          (λ a is. ap (λ q. or_before q set.desired) (is ∙ ap (λ o. request_now e.id o a.request s.journal) from)
          ∙ sym (ap (λ o. request_now e.id o a.request (s.journal ++ two)) from ∙ asks_anew a.request)) old.request;
      struck = old.struck ∙ sym (fold-append (struck_step e.id) false s.journal two);
    }

    mark : last_mark e.id set.caller set.number (s.journal ++ two) ≡ Unsettled
    mark = fold-append (mark_step e.id set.caller set.number) Unsettled s.journal two
        ∙ cond-true (is_call set.caller set.number (Call set.caller set.number)) Unsettled (last_mark e.id set.caller set.number s.journal) (itself set.caller set.number)

    taken_reply : (o : Option Reply) → IsSomeAnd o (IsReply s.journal set.caller set.number e)
        → IsSomeAnd (option_map (λ p. made_due (length s.journal + 1) (with_taken set.version (is_some set.desired) p)) o)
        (IsReply (s.journal ++ two) set.caller set.number (at_version set e))
    taken_reply None r = r
    taken_reply (Some p) r = record {
      caller = r.caller;
      number = r.number;
      version = refl;
      wanted = refl;
      answer_version = r.answer_version;
      due = and_always (is_some set.desired) ∙ ap (λ k. is_some set.desired && not (settles e.answer_version k)) (sym mark);
    }

    pub took_some : IsLogged (s.journal ++ two) (with_entry (at_version set e) s.entries)
        (at_entry e.id (λ p. made_due (length s.journal + 1) (with_taken set.version (is_some set.desired) p)) s.replies)
    took_some =
        let x = at_version set e in
        let log' = with_entry x s.entries in
        let whole = with_entry_is s.entries x e found refl h.asked.distinct in
        logged_one s.journal two s.entries log' s.replies (at_entry e.id f s.replies) x
        (record {
          may = two_may new;
          only = (from, (from, tt));
          whole = whole;
          count = length-set s.entries (position_or_len (has_id e.id) s.entries) x ∙ h.asked.count ∙ sym (fold-append count_step 0 s.journal two);
          made = sym (ap (option_map made_as) found) ∙ h.asked.entries e.id ∙ ap (option_map asked_as) (sym same_made);
          called = still_called s.journal two s.entries s.replies e h found;
          now = now_is;
          answered = (let before = found_all (HasAnswered s.journal) (has_id e.id) s.entries e h.answered.entries found in
              record { answer = before.answer ∙ ap (option_map answer_given) (sym (fold-append (answered_step e.id) None s.journal two)); first = before.first });
          replied = subst (λ o. HasReply (s.journal ++ two) (at_entry e.id f s.replies) x o) (sym from)
              (subst (λ o. IsSomeAnd o (IsReply (s.journal ++ two) set.caller set.number x)) (sym (change_own e.id f (λ p. refl) s.replies))
              (taken_reply (reply e.id s.replies) (replied_by e found from)));
          others = λ id other. change_other e.id f (λ p. refl) id other s.replies;
          theirs = all_change e.id f (λ p. refl) (λ k. IsSome (find (has_id k) log')) s.replies (still_found x s.entries log' s.replies whole h.replies.others);
          rising = rising_change e.id f (λ p. refl) s.replies h.replies.rising;
        })
        h

  -- ---- it makes an entry

  module _ (new : is_known s set ≡ false) (q : Request) (i : Inputs) (desired : set.desired ≡ Some q) (none : find_call (Call set.caller set.number) s.entries ≡ None) where
    abbrev asks : AskedRow
    asks = record { id = next_id s; origin = Call set.caller set.number; request = q; inputs = i; program = (created_under s set).number }

    abbrev three : List Row
    three = took_row s set ∷ (created_row s set q i ∷ (acked_row set ∷ []))

    own : nat_eq (next_id s) (next_id s) ≡ true
    own = eq-eqb (next_id s) (next_id s) refl

    untaken : list_any (takes_request set.caller set.number) s.journal ≡ false
    untaken = false_from_ne_true (list_any (takes_request set.caller set.number) s.journal) (λ t. some_none (find_call (Call set.caller set.number) s.entries) ((h.asked.calls set.caller set.number).1 t) none)

    three_made : asked (next_id s) (s.journal ++ three) ≡ Some asks
    three_made = fold-append (asked_step (next_id s)) None s.journal three
        ∙ cond-true (nat_eq (next_id s) (next_id s)) (first_asked (asked (next_id s) s.journal) asks) (asked (next_id s) s.journal) own
        ∙ ap (λ o. first_asked o asks) (unmade s.journal s.entries s.replies h)

    three_last : last_taken set.caller set.number (s.journal ++ three)
        ≡ Some told
    three_last = fold-append (taken_step set.caller set.number) None s.journal three
        ∙ cond-true (is_call set.caller set.number (Call set.caller set.number))
        (Some told)
        (last_taken set.caller set.number s.journal) (itself set.caller set.number)

    three_asks : request_now (next_id s) (Call set.caller set.number) q (s.journal ++ three) ≡ q
    three_asks = fold-append (request_step (next_id s) (Call set.caller set.number)) q s.journal three
        ∙ cond-true (is_call set.caller set.number (Call set.caller set.number)) (or_before (request_now (next_id s) (Call set.caller set.number) q s.journal) set.desired)
        (request_now (next_id s) (Call set.caller set.number) q s.journal) (itself set.caller set.number)
        ∙ ap (or_before (request_now (next_id s) (Call set.caller set.number) q s.journal)) desired

    three_mark : last_mark (next_id s) set.caller set.number (s.journal ++ three) ≡ Unsettled
    three_mark = fold-append (mark_step (next_id s) set.caller set.number) Unsettled s.journal three
        ∙ cond-true (is_call set.caller set.number (Call set.caller set.number)) Unsettled (last_mark (next_id s) set.caller set.number s.journal) (itself set.caller set.number)

    three_within : set.version ≤ taken_version set.caller set.number ((s.journal ++ took_row s set ∷ []) ++ created_row s set q i ∷ [])
    three_within =
        (let is : taken_version set.caller set.number ((s.journal ++ took_row s set ∷ []) ++ created_row s set q i ∷ []) ≡ set.version =
        ap version_in (fold_push (taken_step set.caller set.number) None (s.journal ++ took_row s set ∷ []) (Asked asks) ∙ took_last) in omega (arith, is))

    three_may : MayCome s.journal three
    three_may = record {
      takes = ((above new, tt), (tt, (three_within, tt)));
      asks = (tt, (ap (λ k. k + 1) (h.asked.count ∙ sym (fold_push count_step 0 s.journal (took_row s set))), (tt, tt)));
      answers = (tt, (tt, (tt, tt)));
      confirms = (tt, (tt, (tt, tt)));
    }

    three_now : IsAsNow (s.journal ++ three) (created_entry s set q i)
    three_now = record {
      version = sym (ap version_in three_last);
      wanted = sym (ap (λ o. option_map_or (λ (t : TookRow). is_some t.desired) o false) three_last ∙ ap is_some desired);
      request = if_some (asked (next_id s) (s.journal ++ three)) asks (λ a. q ≡ request_now (next_id s) (Call set.caller set.number) a.request (s.journal ++ three)) three_made (sym three_asks);
      struck = sym (fold-append (struck_step (next_id s)) false s.journal three ∙ unstruck s.journal s.entries s.replies h);
    }

    three_called : (d : List ℕ) (m : ℕ) → Call set.caller set.number ≡ Call d m → list_any (takes_request d m) (s.journal ++ three) ≡ true
    three_called d m is =
        list_any-append (takes_request d m) s.journal three
        ∙ or_right (list_any (takes_request d m) s.journal) (list_any (takes_request d m) three)
        (ap (λ o. (is_call d m (Call set.caller set.number) && is_some o) || (false || (false || false))) desired
        ∙ ap (λ b. (b && true) || (false || (false || false))) (ap (is_call d m) is ∙ itself d m))

    pub took_made : (place : ℕ) → IsLogged (s.journal ++ three) (insert s.entries place (created_entry s set q i)) (s.replies ++ created_reply s set ∷ [])
    took_made place =
        let x = created_entry s set q i in
        let p = created_reply s set in
        let log' = insert s.entries place x in
        let whole = with_insert s.entries place x (is_new s.journal s.entries s.replies h x refl untaken) h.asked.distinct in
        logged_one s.journal three s.entries log' s.replies (s.replies ++ p ∷ []) x
        (record {
          may = three_may;
          only = (refl, (refl, (refl, tt)));
          whole = whole;
          count = length_insert s.entries place x ∙ ap (λ k. k + 1) h.asked.count ∙ sym (fold-append count_step 0 s.journal three);
          made = sym (ap (option_map asked_as) three_made);
          called = three_called;
          now = three_now;
          answered = record {
            answer = sym (ap (option_map answer_given) (fold-append (answered_step (next_id s)) None s.journal three ∙ unanswered s.journal s.entries s.replies h));
            first = λ none. refl;
          };
          replied = some_and (reply (next_id s) (s.replies ++ p ∷ [])) p (IsReply (s.journal ++ three) set.caller set.number x) (push_own (next_id s) s.replies p own (unreplied s.journal s.entries s.replies h))
              (record { caller = refl; number = refl; version = refl; wanted = refl; answer_version = refl; due = sym (ap (λ k. not (settles 0 k)) three_mark) });
          others = λ id other. push_other id s.replies p other;
          theirs = All-push (λ (r : Reply). IsSome (find (has_id r.id) log')) s.replies p (still_found x s.entries log' s.replies whole h.replies.others) (rw (whole.found (next_id s), own) refl);
          rising = rising_push s.replies p h.replies.rising (above_all (next_id s) s.replies (below_next s.journal s.entries s.replies h));
        })
        h

  -- ---- the event

  taken_by_logged : is_known s set ≡ false → (i : Inputs) (o : Option Entry) (desired : Option Request) → find_call (Call set.caller set.number) s.entries ≡ o → set.desired ≡ desired
      → IsLogged (taken_by s set i o desired).journal (taken_by s set i o desired).entries (taken_by s set i o desired).replies
  taken_by_logged new i (Some e) desired is wants = (let at = found_by_call s.entries set.caller set.number e h.asked.distinct is in took_some new e at.1 at.0)
  taken_by_logged new i None (Some q) is wants = took_made new q i wants is (created_place s set)
  taken_by_logged new i None None is wants = took_none new wants is

  pub take_admitted_logged : (i : Inputs) (full : Option ℕ) → LeavesLogged (take_admitted s set i full)
  take_admitted_logged i (Some n) = h
  take_admitted_logged i None =
      cond_both (is_known s set) (after (acked_again s set) (Ok (taken set None))) (take_new s set i) LeavesLogged
      (λ known. again_by known (find_call (Call set.caller set.number) s.entries) refl)
      (λ new. take_either s set i LeavesLogged (λ e. h) h (λ _. taken_by_logged new i (find_call (Call set.caller set.number) s.entries) set.desired refl refl))
