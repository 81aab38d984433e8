-- Orders of operators keep how entries and replies follow from the journal.
use Rattle.std.proofs.Common.{◌≡◌, ℕ, ◌+◌, true, false, not, ◌&&◌, cond, List, [], ◌∷◌, ◌++◌, Option, Some, None, IsSome, IfSome, IsSomeAnd, Result, Ok, find, insert, length, is_some, option_map, refl, sym, ap, ◌∙◌, subst, nat_eq, eq-eqb}
use Rattle.std.specs.List.{list_any}
use Rattle.std.specs.Option.{option_map_or}
use Rattle.std.proofs.lemmas.Bool.{cond-true}
use Rattle.std.proofs.lemmas.List.{length-map}
use Rattle.std.proofs.lemmas.List.Folds.{list_any-append}
use Rattle.std.proofs.lemmas.List.Sums.{fold_push, fold-append}
use Rattle.lang_core.specs.declared.ids.Origin.{Origin}
use Rattle.lang_core.specs.declared.ids.Origin.TheVariants.{Outside, Call}
use Rattle.lang_core.specs.declared.inputs.Inputs.{Inputs}
use Rattle.lang_core.specs.declared.request.Request.{Request}
use Rattle.lang_tree.specs.declared.method.Method.{Method}
use Rattle.lang_programs.specs.Numbered.{Numbered}
use Rattle.request_log.specs.Entries.{has_id, changed, mark, replace, with_call}
use Rattle.request_log.specs.declared.entry.Entry.{Entry}
use Rattle.repair_messages.specs.declared.posts.PostName.{PostName}
use Rattle.repair_messages.specs.declared.posts.PostName.TheVariants.{Call as OfCall, Reply as OfReply, Fetch as OfFetch}
use Rattle.create_placement.specs.Placement.{created}
use Rattle.journal_rows.specs.Words.{first_asked, asked_step, asked, count_step, taken_step, last_taken_of, version_in, wants, request_step, request_now, struck_by, struck_step, is_struck, replaced_by, answered_step, mark_step, or_before, is_about, settles}
use Rattle.journal_rows.specs.declared.callee.TookRow.{TookRow}
use Rattle.journal_rows.specs.declared.callee.AskedRow.{AskedRow}
use Rattle.journal_rows.specs.declared.orders.About.TheVariants.{Request as AboutRequest, Post as AboutPost, Program as AboutProgram, Rules as AboutRules}
use Rattle.journal_rows.specs.declared.orders.Command.{Command}
use Rattle.journal_rows.specs.declared.orders.Command.TheVariants.{Cancel, Restore, Replace, Create, Retry, Fold, Deploy, Correct, Rules}
use Rattle.journal_rows.specs.declared.orders.OrderedRow.{OrderedRow}
use Rattle.journal_rows.specs.declared.row.Row.{Row}
use Rattle.journal_rows.specs.declared.row.Row.TheVariants.{Asked, Ordered as OrderedAs}
use Rattle.journal_rows.specs.declared.words.Mark.TheVariants.{Unsettled}
use Rattle.call_registers.specs.Replies.{reply, released as released_reply}
use Rattle.call_registers.specs.declared.reply.Reply.{Reply}
use Rattle.service_events.specs.Calls.{noted}
use Rattle.service_events.specs.Fits.{IsOrderAbout, TellsRequests, IsAsNow, HasAnswered, HasReply, IsReply, made_as, asked_as, answer_given, takes_request, request_found, Fits}
use Rattle.service_events.specs.Orders.{entry_of, unless_outside, unless_replaced, misnamed, is_too_much, refused, order_decision, order_rule, unless_allowed, about, request_of, order_rows, released_post, brought, carried_out, corrected_on, made_under, order_by, order_where, first_unquiet, place_made, to_fold, unless_past, unless_present, unless_quiet}
use Rattle.service_events.specs.State.{Kept, after, next_id, or_else, base, folded, unfolded, where_needed}
use Rattle.service_events.specs.declared.answers.Ordered.{Ordered}
use Rattle.service_events.specs.declared.refusals.OrderRefused.{OrderRefused}
use Rattle.service_events.proofs.CallerLaws.{all_same}
use Rattle.service_events.proofs.EntryLemmas.{made_from, found_itself, still_called}
use Rattle.service_events.proofs.FreshLemmas.{unmade, unfound, unanswered, unstruck, asks_as_made, unreplied, is_new, still_found}
use Rattle.service_events.proofs.HoldLaw.{replies_changed}
use Rattle.service_events.proofs.LiveEntryLaws.{LeavesLogged}
use Rattle.service_events.proofs.LogLemmas.{IsWith, with_insert, with_changed, with_same}
use Rattle.service_events.proofs.PartLemmas.{IsLogged, logged_none, logged_one, request_same}
use Rattle.service_events.proofs.EntryRowLemmas.{IsAboutEntry}
use Rattle.service_events.proofs.SearchLemmas.{neither, found_all, length_insert, if_some, or_none}
use Rattle.service_events.proofs.CorrectLaw.{corrected_alike}
use Rattle.service_events.proofs.FoldLaw.{fold_logged, logged_alike}
use Rattle.service_events.proofs.HorizonLemmas.{found_past}

-- ---- what an order finds that isn't refused

-- it is well named, and what it folds is quiet
abbrev pub IsNamed : Kept → Command → Type 0
IsNamed s command = (misnamed s command ≡ None) × (unless_quiet s command ≡ None)

pub well_named : (s : Kept) (command : Command) (who : List ℕ) → refused s command who ≡ None → IsNamed s command
well_named s command who none =
    let named = or_else (misnamed s command) (unless_quiet s command) in
    let full = option_map (λ n. OrderRefused.Full n) (is_too_much s command) in
    neither (misnamed s command) (unless_quiet s command) (neither named full (neither (or_else named full) (unless_allowed (order_decision s command who)) none).0).0

none_past : (id : ℕ) (o : Option Entry) → where_needed (is_some o) (Some (OrderRefused.TooOld id)) ≡ None → o ≡ None
none_past id None h = refl
none_past id (Some e) h = cc

-- what it is about isn't folded
pub present_is : (s : Kept) (id : ℕ) (o : Option Entry) → unless_present id s o ≡ None → find (has_id id) (folded s) ≡ None
present_is s id None none = cc
present_is s id (Some e) none = none_past id (find (has_id id) (folded s)) none

pub present_too : (s : Kept) (id : ℕ) (o : Option Entry) → unless_replaced id s o ≡ None → find (has_id id) (folded s) ≡ None
present_too s id None none = cc
present_too s id (Some e) none = none_past id (find (has_id id) (folded s)) (neither (unless_past id s) (unless_outside id e.origin) none).0

-- the entry up to which a fold goes stands behind the horizon
pub to_fold_is : (s : Kept) (id : ℕ) (o : Option Entry) → entry_of id s ≡ o → unless_present id s o ≡ None → (e : Entry) × (find (has_id id) (unfolded s) ≡ Some e)
to_fold_is s id None is none = cc
to_fold_is s id (Some e) is none = (e, sym (found_past s (has_id id) (present_is s id (Some e) none)) ∙ is)

pub quiet_by : (o : Option ℕ) → option_map (λ unquiet. OrderRefused.NotQuiet unquiet) o ≡ None → o ≡ None
quiet_by None h = refl
quiet_by (Some id) h = cc

-- ---- an order about an entry, which changes what is asked of it or strikes it

module _ (j : List Row) (log : List Entry) (kept : List Reply) (h : IsLogged j log kept) (o : OrderedRow) (id : ℕ) (is : o.about ≡ AboutRequest id) (e : Entry) (found : find (has_id id) log ≡ Some e)
    (x : Entry) (same : x ≡ record e { request = x.request; struck = x.struck }) (requested : (before : Request) → e.request ≡ before → x.request ≡ replaced_by before o o.command)
    (struck : x.struck ≡ struck_by e.struck o.command) (may : IsOrderAbout o.about o.command j) (tells : TellsRequests o j) where
  mine : e.id ≡ id
  mine = found_itself log id e found

  found_own : find (has_id e.id) log ≡ Some e
  found_own = ap (λ k. find (has_id k) log) mine ∙ found

  own_id : x.id ≡ e.id
  own_id = ap (λ (v : Entry). v.id) same

  old : IsAsNow j e
  old = found_all (IsAsNow j) (has_id id) log e h.asked.now found

  made_same : asked e.id (j ++ OrderedAs o ∷ []) ≡ asked e.id j
  made_same = fold_push (asked_step e.id) None j (OrderedAs o)

  about_own : is_about e.id o.about ≡ true
  about_own = ap (is_about e.id) is ∙ eq-eqb id e.id (sym mine)

  taken_same : (origin : Origin) → last_taken_of origin (j ++ OrderedAs o ∷ []) ≡ last_taken_of origin j
  taken_same Outside = refl
  taken_same (Call c n) = fold_push (taken_step c n) None j (OrderedAs o)

  wants_same : (origin : Origin) → wants origin (j ++ OrderedAs o ∷ []) ≡ wants origin j
  wants_same Outside = refl
  wants_same (Call c n) = ap (λ t. option_map_or (λ (r : TookRow). is_some r.desired) t false) (taken_same (Call c n))

  asks_now : (first : Request) → e.request ≡ request_now e.id e.origin first j → x.request ≡ request_now e.id e.origin first (j ++ OrderedAs o ∷ [])
  asks_now first now =
      requested (request_now e.id e.origin first j) now
      ∙ sym (fold_push (request_step e.id e.origin) first j (OrderedAs o)
      ∙ cond-true (is_about e.id o.about) (replaced_by (request_now e.id e.origin first j) o o.command) (request_now e.id e.origin first j) about_own)

  struck_now : x.struck ≡ is_struck e.id (j ++ OrderedAs o ∷ [])
  struck_now =
      struck ∙ ap (λ b. struck_by b o.command) old.struck
      ∙ sym (fold_push (struck_step e.id) false j (OrderedAs o) ∙ cond-true (is_about e.id o.about) (struck_by (is_struck e.id j) o.command) (is_struck e.id j) about_own)

  abbrev amended : Entry
  amended = record e { request = x.request; struck = x.struck }

  now_is : IsAsNow (j ++ OrderedAs o ∷ []) (record e { request = x.request; struck = x.struck })
  now_is = record {
    version = old.version ∙ sym (ap version_in (taken_same e.origin));
    wanted = old.wanted ∙ sym (wants_same e.origin);
    request = request_same (asked e.id j) (asked e.id (j ++ OrderedAs o ∷ [])) (λ a. e.request ≡ request_now e.id e.origin a.request j)
        (λ a. x.request ≡ request_now e.id e.origin a.request (j ++ OrderedAs o ∷ [])) made_same (λ a now. asks_now a.request now) old.request;
    struck = struck_now;
  }

  answered_is : HasAnswered (j ++ OrderedAs o ∷ []) (record e { request = x.request; struck = x.struck })
  answered_is =
      (let before = found_all (HasAnswered j) (has_id id) log e h.answered.entries found in
      record { answer = before.answer ∙ ap (option_map answer_given) (sym (fold_push (answered_step e.id) None j (OrderedAs o))); first = before.first })

  replied_by : (origin : Origin) → HasReply j kept e origin → HasReply (j ++ OrderedAs o ∷ []) kept (record e { request = x.request; struck = x.struck }) origin
  replied_by Outside r = r
  replied_by (Call c n) r = some_reply c n (reply e.id kept) r
    where
      some_reply : (c : List ℕ) (n : ℕ) (p : Option Reply) → IsSomeAnd p (IsReply j c n e) → IsSomeAnd p (IsReply (j ++ OrderedAs o ∷ []) c n (record e { request = x.request; struck = x.struck }))
      some_reply c n None r = r
      some_reply c n (Some p) r = record {
        caller = r.caller;
        number = r.number;
        version = r.version;
        wanted = r.wanted;
        answer_version = r.answer_version;
        due = r.due ∙ ap (λ k. e.wanted && not (settles e.answer_version k)) (sym (fold_push (mark_step e.id c n) Unsettled j (OrderedAs o)));
      }

  pub ordered_one : (log' : List Entry) → IsWith x log log' → length log' ≡ length log → IsLogged (j ++ OrderedAs o ∷ []) log' kept
  ordered_one log' w many =
      let W : IsWith (record e { request = x.request; struck = x.struck }) log log' = subst (λ v. IsWith v log log') same w in
      logged_one j (OrderedAs o ∷ []) log log' kept kept (record e { request = x.request; struck = x.struck })
      (record {
        may = record { takes = (tt, tt); asks = ((may, tells), tt); answers = (tt, tt); confirms = (tt, tt) };
        only = (subst (IsAboutEntry e.id) (sym is) (sym mine), tt);
        whole = W;
        count = many ∙ h.asked.count ∙ sym (fold_push count_step 0 j (OrderedAs o));
        made = sym (ap (option_map made_as) found_own) ∙ h.asked.entries e.id ∙ ap (option_map asked_as) (sym made_same);
        called = still_called j (OrderedAs o ∷ []) log kept e h found_own;
        now = now_is;
        answered = answered_is;
        replied = replied_by e.origin (found_all (λ v. HasReply j kept v v.origin) (has_id id) log e h.replies.entries found);
        others = λ k other. refl;
        theirs = still_found (record e { request = x.request; struck = x.struck }) log log' kept W h.replies.others;
        rising = h.replies.rising;
      })
      h

-- ---- an order about no entry

module _ (s : Kept) (h : IsLogged s.journal s.entries s.replies) where
  aside_ordered : (o : OrderedRow) → IsOrderAbout o.about o.command s.journal → IsAboutEntry (length s.entries + 1) o.about → TellsRequests o s.journal
      → IsLogged (s.journal ++ OrderedAs o ∷ []) s.entries s.replies
  aside_ordered o may aside tells = logged_none s.journal (OrderedAs o ∷ []) s.entries s.replies
      (record {
        may = record { takes = (tt, tt); asks = ((may, tells), tt); answers = (tt, tt); confirms = (tt, tt) };
        count = fold_push count_step 0 s.journal (OrderedAs o);
        made = λ id. fold_push (asked_step id) None s.journal (OrderedAs o);
        calls = λ c n. list_any-append (takes_request c n) s.journal (OrderedAs o ∷ []) ∙ or_none (list_any (takes_request c n) s.journal) (list_any (takes_request c n) (OrderedAs o ∷ [])) refl;
        same = all_same (length s.entries + 1) Outside s.journal (OrderedAs o ∷ []) s.entries (aside, tt) (unfound s.journal s.entries s.replies h) refl;
      })
      h

  retried : (j : List Row) (who : List ℕ) (name : PostName) → IsLogged j s.entries s.replies → IsLogged j (released_post who name s).entries (released_post who name s).replies
  retried j who (OfCall number) l = l
  retried j who (OfFetch number) l = l
  retried j who (OfReply id) l = replies_changed j s.entries s.replies id (released_reply who) (λ p. record { id = refl; caller = refl; number = refl; version = refl; wanted = refl; answer_version = refl; due = refl }) l

  -- ---- an order that makes an entry

  module _ (o : OrderedRow) (q : Request) (i : Inputs) (p : Numbered) (place : ℕ) (is : o.about ≡ AboutRequest (next_id s)) (may : IsOrderAbout o.about o.command s.journal) (tells : TellsRequests o s.journal) (unreplaced : (before : Request) → replaced_by before o o.command ≡ before)
      (unstruck_by : struck_by false o.command ≡ false) where
    abbrev asks : AskedRow
    asks = record { id = next_id s; origin = Outside; request = q; inputs = i; program = p.number }

    abbrev rows : List Row
    rows = OrderedAs o ∷ (Asked (record { id = next_id s; origin = Outside; request = q; inputs = i; program = p.number }) ∷ [])

    own : nat_eq (next_id s) (next_id s) ≡ true
    own = eq-eqb (next_id s) (next_id s) refl

    about_new : is_about (next_id s) o.about ≡ true
    about_new = ap (is_about (next_id s)) is ∙ own

    made : asked (next_id s) (s.journal ++ rows) ≡ Some asks
    made = fold-append (asked_step (next_id s)) None s.journal rows
        ∙ cond-true (nat_eq (next_id s) (next_id s)) (first_asked (asked (next_id s) s.journal) asks) (asked (next_id s) s.journal) own
        ∙ ap (λ a. first_asked a asks) (unmade s.journal s.entries s.replies h)

    asked_now : request_now (next_id s) Outside q (s.journal ++ rows) ≡ q
    asked_now = fold-append (request_step (next_id s) Outside) q s.journal rows
        ∙ cond-true (is_about (next_id s) o.about) (replaced_by (request_now (next_id s) Outside q s.journal) o o.command) (request_now (next_id s) Outside q s.journal) about_new
        ∙ unreplaced (request_now (next_id s) Outside q s.journal) ∙ asks_as_made s.journal s.entries s.replies h Outside q tt

    new_struck : is_struck (next_id s) (s.journal ++ rows) ≡ false
    new_struck = fold-append (struck_step (next_id s)) false s.journal rows
        ∙ cond-true (is_about (next_id s) o.about) (struck_by (is_struck (next_id s) s.journal) o.command) (is_struck (next_id s) s.journal) about_new
        ∙ ap (λ b. struck_by b o.command) (unstruck s.journal s.entries s.replies h) ∙ unstruck_by

    pub ordered_new : IsLogged (s.journal ++ rows) (insert s.entries place (created (next_id s) q i p)) s.replies
    ordered_new =
        let x = created (next_id s) q i p in
        let log' = insert s.entries place x in
        let whole = with_insert s.entries place x (is_new s.journal s.entries s.replies h x refl tt) h.asked.distinct in
        logged_one s.journal rows s.entries log' s.replies s.replies x
        (record {
          may = record { takes = (tt, (tt, tt)); asks = ((may, tells), (ap (λ k. k + 1) (h.asked.count ∙ sym (fold_push count_step 0 s.journal (OrderedAs o))), tt)); answers = (tt, (tt, tt)); confirms = (tt, (tt, tt)) };
          only = (subst (IsAboutEntry (next_id s)) (sym is) refl, (refl, tt));
          whole = whole;
          count = length_insert s.entries place x ∙ ap (λ k. k + 1) h.asked.count ∙ sym (fold-append count_step 0 s.journal rows);
          made = sym (ap (option_map asked_as) made);
          called = λ c n is. cc;
          now = record {
            version = refl;
            wanted = refl;
            request = if_some (asked (next_id s) (s.journal ++ rows)) asks (λ a. q ≡ request_now (next_id s) Outside a.request (s.journal ++ rows)) made (sym asked_now);
            struck = sym new_struck;
          };
          answered = record {
            answer = sym (ap (option_map answer_given) (fold-append (answered_step (next_id s)) None s.journal rows ∙ unanswered s.journal s.entries s.replies h));
            first = λ none. refl;
          };
          replied = unreplied s.journal s.entries s.replies h;
          others = λ k other. refl;
          theirs = still_found x s.entries log' s.replies whole h.replies.others;
          rising = h.replies.rising;
        })
        h

  -- ---- the event

  there_is : (id : ℕ) (o : Option Entry) → unless_present id s o ≡ None → (e : Entry) × (o ≡ Some e)
  there_is id None none = cc
  there_is id (Some e) none = (e, refl)

  outside_is : (id : ℕ) (o : Origin) → unless_outside id o ≡ None → o ≡ Outside
  outside_is id Outside none = refl
  outside_is id (Call c n) none = cc

  replaced_is : (id : ℕ) (o : Option Entry) → unless_replaced id s o ≡ None → (e : Entry) × (o ≡ Some e) × (e.origin ≡ Outside)
  replaced_is id None none = cc
  replaced_is id (Some e) none = (e, refl, outside_is id e.origin (neither (unless_past id s) (unless_outside id e.origin) none).1)

  was_made : (id : ℕ) (e : Entry) → find (has_id id) s.entries ≡ Some e → Some (made_as e) ≡ option_map asked_as (asked id s.journal)
  was_made id e found = sym (ap (option_map made_as) found) ∙ h.asked.entries id

  is_there : (id : ℕ) (e : Entry) → find (has_id id) s.entries ≡ Some e → IsSome (asked id s.journal)
  is_there id e found = here (asked id s.journal) (was_made id e found)
    where
      here : (o : Option AskedRow) → Some (made_as e) ≡ option_map asked_as o → IsSome o
      here None same = cc
      here (Some a) same = refl

  is_outside : (id : ℕ) (e : Entry) → find (has_id id) s.entries ≡ Some e → e.origin ≡ Outside → IsSomeAnd (asked id s.journal) (λ a. a.origin ≡ Outside)
  is_outside id e found from =
      subst (λ o. IsSomeAnd (asked id s.journal) (λ a. a.origin ≡ o)) from (made_from (asked id s.journal) e.origin e.inputs (was_made id e found))

  some_replaced : (m : Method) (p b : List ℕ) (o : Option Entry) (e : Entry) → o ≡ Some e → (before : Request) → e.request ≡ before
      → with_call m p b e.request ≡ or_before before (option_map (with_call m p b) (option_map (λ (v : Entry). v.request) o))
  some_replaced m p b None e is before same = cc
  some_replaced m p b (Some v) e is before same = (let one : v ≡ e = cc in ap (λ (w : Entry). with_call m p b w.request) (sym one))

  -- what an order finds is what the journal says that the entry asks by then
  pub found_as_told : (id : ℕ) → request_of id s ≡ request_found (AboutRequest id) s.journal
  found_as_told id = by (entry_of id s) (asked id s.journal) refl refl (h.asked.entries id)
    where
      by : (o : Option Entry) (made : Option AskedRow) → find (has_id id) s.entries ≡ o → asked id s.journal ≡ made → option_map made_as o ≡ option_map asked_as made
          → option_map (λ (e : Entry). e.request) o ≡ option_map (λ (a : AskedRow). request_now id a.origin a.request s.journal) made
      by None None found is same = refl
      by None (Some a) found is same = cc
      by (Some e) None found is same = cc
      by (Some e) (Some a) found is same =
          let now = found_all (IsAsNow s.journal) (has_id id) s.entries e h.asked.now found in
          let Asks : ℕ → Option AskedRow → Type 0 = λ k o. IfSome o (λ (r : AskedRow). e.request ≡ request_now k e.origin r.request s.journal) in
          let told = subst (λ k. Asks k (asked k s.journal)) (found_itself s.entries id e found) now.request in
          let asks : e.request ≡ request_now id e.origin a.request s.journal = subst (Asks id) is told in
          let one : made_as e ≡ asked_as a = cc in
          ap Some (asks ∙ ap (λ from. request_now id from a.request s.journal) (ap (λ (x : Origin × Inputs). x.0) one))

  ordered_logged_by : Fits s → (command : Command) (token who : List ℕ) (i : Inputs) → IsNamed s command
      → IsLogged (s.journal ++ order_rows s command token who i) (carried_out s command who i).entries (carried_out s command who i).replies
  ordered_logged_by f (Cancel id) token who i ok =
      (let at = there_is id (entry_of id s) ok.0 in
      ordered_one s.journal s.entries s.replies h
      (record { token = token; command = Cancel id; who = who; rule = order_rule s (Cancel id) who; original = request_of id s; repaired = None; about = AboutRequest id }) id refl at.0 at.1
      (mark true at.0) refl (λ before same. same) refl (is_there id at.0 at.1) (found_as_told id, refl) (changed id (mark true) s.entries)
      (with_changed s.entries id (mark true) at.0 at.1 refl refl h.asked.distinct) (length-map s.entries (λ e. cond (has_id id e) (mark true e) e)))
  ordered_logged_by f (Restore id) token who i ok =
      (let at = there_is id (entry_of id s) ok.0 in
      ordered_one s.journal s.entries s.replies h
      (record { token = token; command = Restore id; who = who; rule = order_rule s (Restore id) who; original = request_of id s; repaired = None; about = AboutRequest id }) id refl at.0 at.1
      (mark false at.0) refl (λ before same. same) refl (is_there id at.0 at.1) (found_as_told id, refl) (changed id (mark false) s.entries)
      (with_changed s.entries id (mark false) at.0 at.1 refl refl h.asked.distinct) (length-map s.entries (λ e. cond (has_id id e) (mark false e) e)))
  ordered_logged_by f (Replace id m p b) token who i ok =
      (let at = replaced_is id (entry_of id s) ok.0 in
      ordered_one s.journal s.entries s.replies h
      (record { token = token; command = Replace id m p b; who = who; rule = order_rule s (Replace id m p b) who; original = request_of id s; repaired = option_map (with_call m p b) (request_of id s); about = AboutRequest id }) id refl at.0 at.1
      (replace m p b at.0) refl (some_replaced m p b (entry_of id s) at.0 at.1) refl (is_outside id at.0 at.1 at.2) (found_as_told id, refl) (changed id (replace m p b) s.entries)
      (with_changed s.entries id (replace m p b) at.0 at.1 refl refl h.asked.distinct) (length-map s.entries (λ e. cond (has_id id e) (replace m p b e) e)))
  ordered_logged_by f (Create before after q) token who i ok =
      ordered_new
      (record { token = token; command = Create before after q; who = who; rule = order_rule s (Create before after q) who; original = None; repaired = Some q; about = AboutRequest (next_id s) }) q i (made_under s before after) (place_made s before after) refl tt
      (sym (ap (option_map (λ (a : AskedRow). request_now (next_id s) a.origin a.request s.journal)) (unmade s.journal s.entries s.replies h)), refl) (λ r. refl) refl
  ordered_logged_by f (Retry name) token who i ok =
      retried (s.journal ++ order_rows s (Retry name) token who i) who name
      (aside_ordered (record { token = token; command = Retry name; who = who; rule = order_rule s (Retry name) who; original = None; repaired = None; about = AboutPost name }) tt tt (refl, refl))
  ordered_logged_by f (Deploy p) token who i ok =
      aside_ordered (record { token = token; command = Deploy p; who = who; rule = order_rule s (Deploy p) who; original = None; repaired = None; about = AboutProgram (brought s p).number }) tt tt (refl, refl)
  ordered_logged_by f (Correct k p) token who i ok =
      let o : OrderedRow = record { token = token; command = Correct k p; who = who; rule = order_rule s (Correct k p) who; original = None; repaired = None; about = AboutProgram (brought s p).number } in
      logged_alike (s.journal ++ OrderedAs o ∷ []) s.replies s.entries (corrected_on k (brought s p) s).entries (corrected_alike s k (brought s p)) (aside_ordered o tt tt (refl, refl))
  ordered_logged_by f (Rules g) token who i ok =
      aside_ordered (record { token = token; command = Rules g; who = who; rule = order_rule s (Rules g) who; original = None; repaired = None; about = AboutRules }) tt tt (refl, refl)
  ordered_logged_by f (Fold id) token who i ok =
      let o : OrderedRow = record { token = token; command = Fold id; who = who; rule = order_rule s (Fold id) who; original = None; repaired = None; about = AboutRequest id } in
      let at = there_is id (entry_of id s) ok.0 in
      let behind = to_fold_is s id (entry_of id s) refl ok.0 in
      fold_logged s f id behind.0 behind.1 (quiet_by (first_unquiet s (base s) (to_fold id s)) ok.1) (s.journal ++ OrderedAs o ∷ [])
      (ordered_one s.journal s.entries s.replies h o id refl at.0 at.1 at.0 refl (λ before same. same) refl (is_there id at.0 at.1) (refl, refl) s.entries
      (with_same s.entries id at.0 at.1 h.asked.distinct) refl)

  order_by_logged : Fits s → (command : Command) (token who : List ℕ) (i : Inputs) (o : Option OrderRefused) → refused s command who ≡ o → LeavesLogged (order_by s command token who i o)
  order_by_logged f command token who i (Some why) is = h
  order_by_logged f command token who i None is = journal_by command token who i (ordered_logged_by f command token who i (well_named s command who is))
    where
      -- the rows come behind the journal, which nothing else changes
      journal_by : (command : Command) (token who : List ℕ) (i : Inputs)
          → IsLogged (s.journal ++ order_rows s command token who i) (carried_out s command who i).entries (carried_out s command who i).replies
          → LeavesLogged {A = Result Ordered OrderRefused} (after (noted (order_rows s command token who i) (carried_out s command who i)) (Ok (record { about = about s command; rule = order_rule s command who })))
      journal_by command token who i l = subst (λ k. IsLogged (k ++ order_rows s command token who i) (carried_out s command who i).entries (carried_out s command who i).replies) (sym (journal_stays command who i)) l
        where
          journal_stays : (command : Command) (who : List ℕ) (i : Inputs) → (carried_out s command who i).journal ≡ s.journal
          journal_stays (Cancel id) who i = refl
          journal_stays (Restore id) who i = refl
          journal_stays (Replace id m p b) who i = refl
          journal_stays (Create x y q) who i = refl
          journal_stays (Retry (OfCall n)) who i = refl
          journal_stays (Retry (OfReply n)) who i = refl
          journal_stays (Retry (OfFetch n)) who i = refl
          journal_stays (Fold id) who i = refl
          journal_stays (Deploy p) who i = refl
          journal_stays (Correct k p) who i = refl
          journal_stays (Rules g) who i = refl

  pub order_where_logged : Fits s → (command : Command) (token who : List ℕ) (i : Inputs) (o : Option OrderedRow) → LeavesLogged (order_where s command token who i o)
  order_where_logged f command token who i (Some o) = h
  order_where_logged f command token who i None = order_by_logged f command token who i (refused s command who) refl
