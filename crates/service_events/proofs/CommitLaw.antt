-- A commit: an entry comes last, with its record, its first answer and, where a call asked for it, its reply.
use Rattle.std.proofs.Common.{◌≡◌, ℕ, ◌+◌, true, false, cond, List, [], ◌∷◌, ◌++◌, Some, None, IsSome, find, length, option_map, refl, sym, ap, ◌∙◌, subst, nat_eq, arith, append_assoc, append-nil, length-append, eq-eqb, drop}
use Rattle.std.specs.List.{AllByRecursion as Each, list_any}
use Rattle.std.proofs.lemmas.Bool.{cond-true, or_right}
use Rattle.std.proofs.lemmas.List.Elements.{All-push}
use Rattle.std.proofs.lemmas.List.Folds.{list_any-append}
use Rattle.std.proofs.lemmas.List.Sums.{fold_push, fold-append}
use Rattle.lang_core.specs.Origins.{is_call}
use Rattle.lang_core.specs.declared.ids.Origin.{Origin}
use Rattle.lang_core.specs.declared.ids.Origin.TheVariants.{Outside, Call}
use Rattle.lang_core.specs.declared.trace.CallMade.{CallMade}
use Rattle.lang_core.specs.declared.trace.Trace.{Trace}
use Rattle.request_log.specs.Entries.{has_id}
use Rattle.request_log.specs.declared.entry.Entry.{Entry}
use Rattle.journal_rows.specs.Words.{first_asked, asked_step, asked, count_step, taken_step, last_taken, last_taken_of, version_in, taken_version, request_step, request_now, struck_step, answered_step, last_answered, given_version, mark_step, last_mark, last_step}
use Rattle.journal_rows.specs.declared.callee.AnsweredRow.{AnsweredRow}
use Rattle.journal_rows.specs.declared.callee.AskedRow.{AskedRow}
use Rattle.journal_rows.specs.declared.callee.TookRow.{TookRow}
use Rattle.journal_rows.specs.declared.callee.TookHow.TheVariants.{Live}
use Rattle.journal_rows.specs.declared.row.Row.{Row}
use Rattle.journal_rows.specs.declared.row.Row.TheVariants.{Asked, Took, Answered}
use Rattle.journal_rows.specs.declared.words.Mark.TheVariants.{Unsettled, AnsweredLive}
use Rattle.call_registers.specs.Replies.{reply}
use Rattle.call_registers.specs.declared.register.Register.{Register}
use Rattle.call_registers.specs.declared.reply.Reply.{Reply}
use Rattle.call_registers.proofs.ReplyLemmas.{rising_push}
use Rattle.flights.specs.declared.flight.Flight.{Flight}
use Rattle.service_events.specs.Calls.{all_deleted}
use Rattle.service_events.specs.Fits.{IsAsNow, HasAnswered, IsReply, IsTakenLive, asked_as, answer_given, takes_request}
use Rattle.service_events.specs.Flying.{took_rows, surplus_rows, live_answer, committed_entry, live_replies, answer_index, committed}
use Rattle.service_events.specs.State.{Kept, me, next_id}
use Rattle.service_events.proofs.CallerLaws.{IsCallerRow, callers_logged, callers_taken}
use Rattle.service_events.proofs.FreshLemmas.{unmade, unanswered, unstruck, asks_as_made, unreplied, below_next, is_new, untaken_of, still_found}
use Rattle.service_events.proofs.JournalLemmas.{IsUntaken}
use Rattle.service_events.proofs.LogLemmas.{itself, with_push}
use Rattle.service_events.proofs.PartLemmas.{IsLogged, MayCome, logged_one}
use Rattle.service_events.proofs.ReplyLemmas.{push_own, push_other, above_all}
use Rattle.service_events.proofs.SearchLemmas.{some_and, if_some}

-- the rows of a commit behind those of the calls too many
abbrev pub commit_rows : Kept → Flight → Trace → List Row
commit_rows s f t =
    Asked (record { id = next_id s; origin = f.origin; request = f.request; inputs = f.inputs; program = f.program.number })
    ∷ (took_rows f.origin f.request ++ live_answer s f t ∷ [])

-- ---- words after a row

module _ (id : ℕ) (j : List Row) (a : AskedRow) where
  pub made_here : nat_eq a.id id ≡ true → asked id j ≡ None → asked id (j ++ Asked a ∷ []) ≡ Some a
  made_here same none =
      fold_push (asked_step id) None j (Asked a) ∙ cond-true (nat_eq a.id id) (first_asked (asked id j) a) (asked id j) same
      ∙ ap (λ o. first_asked o a) none

pub took_here : (c : List ℕ) (n : ℕ) (j : List Row) (t : TookRow) → t.caller ≡ c → t.number ≡ n → last_taken c n (j ++ Took t ∷ []) ≡ Some t
took_here c n j t caller number =
    fold_push (taken_step c n) None j (Took t)
    ∙ cond-true (is_call c n (Call t.caller t.number)) (Some t) (last_taken c n j) (ap (λ k. is_call c n (Call k t.number)) caller ∙ ap (λ m. is_call c n (Call c m)) number ∙ itself c n)

pub mark_live : (id : ℕ) (c : List ℕ) (n : ℕ) (j : List Row) (a : AnsweredRow) → a.id ≡ id → a.live ≡ true → last_mark id c n (j ++ Answered a ∷ []) ≡ AnsweredLive
mark_live id c n j a same live =
    fold_push (mark_step id c n) Unsettled j (Answered a)
    ∙ cond-true (nat_eq a.id id) (cond a.live AnsweredLive Unsettled) (last_mark id c n j) (eq-eqb a.id id same) ∙ cond-true a.live AnsweredLive Unsettled live

pub answered_here : (id : ℕ) (j : List Row) (a : AnsweredRow) → a.id ≡ id → last_answered id (j ++ Answered a ∷ []) ≡ Some a
answered_here id j a same =
    fold_push (answered_step id) None j (Answered a) ∙ cond-true (nat_eq a.id id) (Some a) (last_answered id j) (eq-eqb a.id id same)

-- ---- a request from outside

module _ (s : Kept) (j : List Row) (h : IsLogged j s.entries s.replies) (f : Flight) (t : Trace) where
  abbrev outside : Flight
  outside = record f { origin = Outside }

  abbrev asks : AskedRow
  asks = record { id = next_id s; origin = Outside; request = f.request; inputs = f.inputs; program = f.program.number }

  abbrev answers : AnsweredRow
  answers = record { id = next_id s; origin = Outside; answer_version = 1; version = 0; response = t.response; live = true }

  abbrev outside_rows : List Row
  outside_rows = Asked (record { id = next_id s; origin = Outside; request = f.request; inputs = f.inputs; program = f.program.number })
      ∷ Answered (record { id = next_id s; origin = Outside; answer_version = 1; version = 0; response = t.response; live = true }) ∷ []

  fresh : nat_eq (next_id s) (next_id s) ≡ true
  fresh = eq-eqb (next_id s) (next_id s) refl

  outside_made : asked (next_id s) (j ++ outside_rows) ≡ Some (record { id = next_id s; origin = Outside; request = f.request; inputs = f.inputs; program = f.program.number })
  outside_made =
      fold-append (asked_step (next_id s)) None j outside_rows
      ∙ cond-true (nat_eq (next_id s) (next_id s)) (first_asked (asked (next_id s) j) asks) (asked (next_id s) j) fresh
      ∙ ap (λ o. first_asked o asks) (unmade j s.entries s.replies h)

  outside_may : MayCome j outside_rows
  outside_may = record {
    takes = (tt, (refl, tt));
    asks = (ap (λ n. n + 1) h.asked.count, (tt, tt));
    answers = (
      tt,
      (
        (
          some_and (asked (next_id s) (j ++ Asked asks ∷ [])) asks (λ made. made.origin ≡ Outside) (made_here (next_id s) j asks fresh (unmade j s.entries s.replies h)) refl,
          sym (ap (λ o. given_version o + 1) (fold_push (answered_step (next_id s)) None j (Asked asks) ∙ unanswered j s.entries s.replies h)),
          λ live. (refl, tt),
        ),
        tt,
      ),
    );
    confirms = (tt, (tt, tt));
  }

  outside_now : IsAsNow (j ++ outside_rows) (committed_entry s outside t)
  outside_now = record {
    version = refl;
    wanted = refl;
    request = if_some (asked (next_id s) (j ++ outside_rows)) asks (λ a. f.request ≡ request_now (next_id s) Outside a.request (j ++ outside_rows)) outside_made
        (sym (fold-append (request_step (next_id s) Outside) f.request j outside_rows ∙ asks_as_made j s.entries s.replies h Outside f.request tt));
    struck = sym (fold-append (struck_step (next_id s)) false j outside_rows ∙ unstruck j s.entries s.replies h);
  }

  outside_answered : HasAnswered (j ++ outside_rows) (committed_entry s outside t)
  outside_answered = record {
    answer = sym (ap (option_map answer_given) (fold-append (answered_step (next_id s)) None j outside_rows
        ∙ cond-true (nat_eq (next_id s) (next_id s)) (Some answers) (last_answered (next_id s) j) fresh));
    first = λ none. cc;
  }

  pub commit_outside : IsLogged (j ++ outside_rows) (s.entries ++ committed_entry s outside t ∷ []) s.replies
  commit_outside =
      let x : Entry = committed_entry s outside t in
      let whole = with_push s.entries x (is_new j s.entries s.replies h x refl tt) h.asked.distinct in
      logged_one j outside_rows s.entries (s.entries ++ x ∷ []) s.replies s.replies x
      (record {
        may = outside_may;
        only = (refl, (refl, tt));
        whole = whole;
        count = length-append s.entries (x ∷ []) ∙ ap (λ n. n + 1) h.asked.count ∙ sym (fold-append count_step 0 j outside_rows);
        made = sym (ap (option_map asked_as) outside_made);
        called = λ c n is. cc;
        now = outside_now;
        answered = outside_answered;
        replied = unreplied j s.entries s.replies h;
        others = λ id other. refl;
        theirs = still_found x s.entries (s.entries ++ x ∷ []) s.replies whole h.replies.others;
        rising = h.replies.rising;
      })
      h

-- ---- a call

module _ (s : Kept) (j : List Row) (h : IsLogged j s.entries s.replies) (f : Flight) (t : Trace) (c : List ℕ) (n : ℕ) (none : last_taken c n j ≡ None) where
  abbrev calling : Flight
  calling = record f { origin = Call c n }

  abbrev call_asks : AskedRow
  call_asks = record { id = next_id s; origin = Call c n; request = f.request; inputs = f.inputs; program = f.program.number }

  abbrev call_took : TookRow
  call_took = record { caller = c; number = n; version = 1; desired = Some f.request; how = Live; who = (f.request).who; rule = 0 }

  abbrev call_answers : AnsweredRow
  call_answers = record { id = next_id s; origin = Call c n; answer_version = 1; version = 1; response = t.response; live = true }

  abbrev call_rows : List Row
  call_rows = Asked (record { id = next_id s; origin = Call c n; request = f.request; inputs = f.inputs; program = f.program.number })
      ∷ (Took (record { caller = c; number = n; version = 1; desired = Some f.request; how = Live; who = (f.request).who; rule = 0 })
      ∷ Answered (record { id = next_id s; origin = Call c n; answer_version = 1; version = 1; response = t.response; live = true }) ∷ [])

  abbrev asked_there : List Row
  asked_there = j ++ Asked (record { id = next_id s; origin = Call c n; request = f.request; inputs = f.inputs; program = f.program.number }) ∷ []

  abbrev took_there : List Row
  took_there = (j ++ Asked (record { id = next_id s; origin = Call c n; request = f.request; inputs = f.inputs; program = f.program.number }) ∷ [])
      ++ Took (record { caller = c; number = n; version = 1; desired = Some f.request; how = Live; who = (f.request).who; rule = 0 }) ∷ []

  own : nat_eq (next_id s) (next_id s) ≡ true
  own = eq-eqb (next_id s) (next_id s) refl

  free : IsUntaken (Call c n) j
  free = untaken_of (Call c n) j none

  call_made : asked (next_id s) (j ++ call_rows) ≡ Some call_asks
  call_made =
      fold-append (asked_step (next_id s)) None j call_rows
      ∙ cond-true (nat_eq (next_id s) (next_id s)) (first_asked (asked (next_id s) j) call_asks) (asked (next_id s) j) own
      ∙ ap (λ o. first_asked o call_asks) (unmade j s.entries s.replies h)

  call_taken : last_taken c n (j ++ call_rows) ≡ Some call_took
  call_taken =
      fold-append (taken_step c n) None j call_rows ∙ cond-true (is_call c n (Call c n)) (Some call_took) (last_taken c n j) (itself c n)

  made_by_then : asked (next_id s) took_there ≡ Some call_asks
  made_by_then = fold_push (asked_step (next_id s)) None asked_there (Took call_took) ∙ made_here (next_id s) j call_asks own (unmade j s.entries s.replies h)

  none_answered : last_answered (next_id s) took_there ≡ None
  none_answered =
      fold_push (answered_step (next_id s)) None asked_there (Took call_took) ∙ fold_push (answered_step (next_id s)) None j (Asked call_asks)
      ∙ unanswered j s.entries s.replies h

  none_taken : taken_version c n asked_there ≡ 0
  none_taken = ap version_in (fold_push (taken_step c n) None j (Asked call_asks) ∙ none)

  one_taken : 1 ≡ taken_version c n took_there
  one_taken = sym (ap version_in (took_here c n asked_there call_took refl refl))

  call_may : MayCome j call_rows
  call_may = record {
    takes = (tt, (((let zero = none_taken in omega (arith, zero)), (refl, refl)), (one_taken, tt)));
    asks = (ap (λ k. k + 1) h.asked.count, (tt, (tt, tt)));
    answers = (
      tt,
      (
        tt,
        (
          (
            some_and (asked (next_id s) took_there) call_asks (λ made. made.origin ≡ Call c n) made_by_then refl,
            sym (ap (λ o. given_version o + 1) none_answered),
            λ live. (refl, subst (IsTakenLive (Call c n)) (sym (fold_push last_step None asked_there (Took call_took))) (refl, refl, refl)),
          ),
          tt,
        ),
      ),
    );
    confirms = (tt, (tt, (tt, tt)));
  }

  call_now : IsAsNow (j ++ call_rows) (committed_entry s calling t)
  call_now = record {
    version = sym (ap version_in call_taken);
    wanted = rw call_taken refl;
    request = if_some (asked (next_id s) (j ++ call_rows)) call_asks (λ a. f.request ≡ request_now (next_id s) (Call c n) a.request (j ++ call_rows)) call_made
        (sym (fold-append (request_step (next_id s) (Call c n)) f.request j call_rows
        ∙ cond-true (is_call c n (Call c n)) f.request (request_now (next_id s) (Call c n) f.request j) (itself c n)));
    struck = sym (fold-append (struck_step (next_id s)) false j call_rows ∙ unstruck j s.entries s.replies h);
  }

  call_answered : HasAnswered (j ++ call_rows) (committed_entry s calling t)
  call_answered = record {
    answer = sym (ap (option_map answer_given) (fold-append (answered_step (next_id s)) None j call_rows
        ∙ cond-true (nat_eq (next_id s) (next_id s)) (Some call_answers) (last_answered (next_id s) j) own));
    first = λ none. cc;
  }

  call_marked : last_mark (next_id s) c n (j ++ call_rows) ≡ AnsweredLive
  call_marked =
      fold-append (mark_step (next_id s) c n) Unsettled j call_rows
      ∙ cond-true (nat_eq (next_id s) (next_id s)) AnsweredLive (last_mark (next_id s) c n j) own

  pub commit_call : (index : ℕ) → IsLogged (j ++ call_rows) (s.entries ++ committed_entry s calling t ∷ []) (s.replies ++ live_replies s index (Call c n))
  commit_call index =
      let x : Entry = committed_entry s calling t in
      let p : Reply = record { id = next_id s; caller = c; number = n; version = 1; answer_version = 1; wanted = true; due = false; held = None; repair_who = me s; since = index } in
      let whole = with_push s.entries x (is_new j s.entries s.replies h x refl free) h.asked.distinct in
      logged_one j call_rows s.entries (s.entries ++ x ∷ []) s.replies (s.replies ++ p ∷ []) x
      (record {
        may = call_may;
        only = (refl, (refl, (refl, tt)));
        whole = whole;
        count = length-append s.entries (x ∷ []) ∙ ap (λ k. k + 1) h.asked.count ∙ sym (fold-append count_step 0 j call_rows);
        made = sym (ap (option_map asked_as) call_made);
        called = λ d m is. called_by d m is;
        now = call_now;
        answered = call_answered;
        replied = some_and (reply (next_id s) (s.replies ++ p ∷ [])) p (IsReply (j ++ call_rows) c n x) (push_own (next_id s) s.replies p own (unreplied j s.entries s.replies h))
            (record { caller = refl; number = refl; version = refl; wanted = refl; answer_version = refl; due = sym (rw call_marked refl) });
        others = λ id other. push_other id s.replies p other;
        theirs = All-push (λ (r : Reply). IsSome (find (has_id r.id) (s.entries ++ x ∷ []))) s.replies p
            (still_found x s.entries (s.entries ++ x ∷ []) s.replies whole h.replies.others) (rw (whole.found (next_id s), own) refl);
        rising = rising_push s.replies p h.replies.rising (above_all (next_id s) s.replies (below_next j s.entries s.replies h));
      })
      h
    where
      called_by : (d : List ℕ) (m : ℕ) → Call c n ≡ Call d m → list_any (takes_request d m) (j ++ call_rows) ≡ true
      called_by d m is =
          list_any-append (takes_request d m) j call_rows
          ∙ or_right (list_any (takes_request d m) j) (list_any (takes_request d m) call_rows) (rw (ap (is_call d m) is ∙ itself d m) refl)

-- ---- either

commit_at : (s : Kept) (j : List Row) (f : Flight) (t : Trace) (index : ℕ) (o : Origin) → IsLogged j s.entries s.replies → last_taken_of o j ≡ None
    → IsLogged (j ++ commit_rows s (record f { origin = o }) t) (s.entries ++ committed_entry s (record f { origin = o }) t ∷ [])
    (s.replies ++ live_replies s index o)
commit_at s j f t index Outside h none =
    (let P : List Reply → Type 0 = λ r. IsLogged (j ++ commit_rows s (record f { origin = Outside }) t) (s.entries ++ committed_entry s (record f { origin = Outside }) t ∷ []) r in
    subst P (sym (append-nil s.replies)) (commit_outside s j h f t))
commit_at s j f t index (Call c n) h none = commit_call s j h f t c n none index

all_callers : (registers : List Register) (ns : List ℕ) (cs : List CallMade) → Each IsCallerRow (all_deleted registers ns cs)
all_callers registers [] cs = tt
all_callers registers (n ∷ ns) [] = tt
all_callers registers (n ∷ ns) (c ∷ cs) = (tt, all_callers registers ns cs)

pub deleted_callers : (registers : List Register) (ns : List ℕ) (cs : List CallMade) → Each IsCallerRow (all_deleted registers ns cs)
deleted_callers registers ns cs = all_callers registers ns cs

rows_together : (j surplus : List Row) (a : Row) (took : List Row) (last : Row)
    → (j ++ surplus) ++ (a ∷ (took ++ last ∷ [])) ≡ j ++ ((surplus ++ (a ∷ took)) ++ last ∷ [])
rows_together j surplus a took last =
    append_assoc j surplus (a ∷ (took ++ last ∷ [])) ∙ ap (λ rows. j ++ rows) (sym (append_assoc surplus (a ∷ took) (last ∷ [])))

-- a flight whose origin wasn't taken is committed
pub committed_logged : (s : Kept) (f : Flight) (t : Trace) → IsLogged s.journal s.entries s.replies → last_taken_of f.origin s.journal ≡ None
    → IsLogged (committed s f t).service.journal (committed s f t).service.entries (committed s f t).service.replies
committed_logged s f t h none =
    let surplus = surplus_rows s f t in
    let callers : Each IsCallerRow surplus = deleted_callers s.registers (drop (length t.calls) f.numbers) (drop (length t.calls) f.calls) in
    let before = callers_logged s.journal surplus s.entries s.replies callers h in
    let free = callers_taken f.origin s.journal surplus callers ∙ none in
    let P : List Row → Type 0 = λ j. IsLogged j (s.entries ++ committed_entry s f t ∷ []) (s.replies ++ live_replies s (answer_index s f t) f.origin) in
    subst P
    (rows_together s.journal surplus (Asked (record { id = next_id s; origin = f.origin; request = f.request; inputs = f.inputs; program = f.program.number })) (took_rows f.origin f.request) (live_answer s f t))
    (commit_at s (s.journal ++ surplus) f t (answer_index s f t) f.origin before free)
