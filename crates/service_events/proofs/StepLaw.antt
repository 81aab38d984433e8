-- A repair step keeps how entries and replies follow from the journal: the entry that ran again has another record, and perhaps a new answer.
use Rattle.std.proofs.Common.{◌≡◌, ℕ, ◌+◌, ◌<◌, ◌≤◌, ◌^◌, Bool, true, false, not, ◌&&◌, cond, List, [], ◌∷◌, ◌++◌, Option, Some, None, IsSome, IsSomeAnd, find, length, option_map, refl, sym, ap, ◌∙◌, subst, inl, inr, nat_eq, arith, append_assoc, length-append, append-nil, eqb-true, eq-eqb, length-set}
use Rattle.std.specs.List.{AllByRecursion as Each, position_or_len}
use Rattle.std.proofs.lemmas.Bool.{cases_Bool, cond_both, cond-true, and_parts, not-false}
use Rattle.std.proofs.lemmas.List.Sums.{fold_push}
use Rattle.lang_base.specs.Equal.{equal}
use Rattle.lang_base.specs.Texts.{same_text}
use Rattle.lang_base.proofs.EqualLemmas.{equal-true}
use Rattle.lang_core.specs.contracts.request.Response as response
use Rattle.lang_core.specs.declared.cells.Cell.{Cell}
use Rattle.lang_core.specs.declared.ids.Origin.{Origin}
use Rattle.lang_core.specs.declared.ids.Origin.TheVariants.{Outside, Call}
use Rattle.lang_core.specs.declared.trace.CallMade.{CallMade}
use Rattle.request_log.specs.Entries.{has_id, IsDistinct, with_entry}
use Rattle.request_log.specs.Records.{record_in}
use Rattle.request_log.specs.declared.entry.Entry.{Entry}
use Rattle.request_log.specs.declared.entry.Made.{Made}
use Rattle.local_repair.specs.Current.{Consumed, after_entry}
use Rattle.local_repair.specs.Steps.{same_call, calls_of_made, is_new_answer, remade, raised, raised_if}
use Rattle.local_repair.specs.Tests.{is_current, step_with}
use Rattle.journal_rows.specs.Words.{asked, count_step, asked_count, mark_step, last_mark, settles}
use Rattle.journal_rows.specs.declared.callee.AnsweredRow.{AnsweredRow}
use Rattle.journal_rows.specs.declared.row.Row.{Row}
use Rattle.journal_rows.specs.declared.row.Row.TheVariants.{Answered}
use Rattle.journal_rows.specs.declared.words.Mark.TheVariants.{Unsettled}
use Rattle.call_registers.specs.Registers.{next_number}
use Rattle.call_registers.specs.Replies.{reply, at_entry, with_answer}
use Rattle.call_registers.specs.declared.register.Register.{Register}
use Rattle.call_registers.specs.declared.reply.Reply.{Reply}
use Rattle.service_events.specs.Calls.{replaced, deleted, named, slot_rows, next_after, settling_rows}
use Rattle.service_events.specs.Fits.{IsAsNow, HasAnswered, HasReply, IsReply, made_as, asked_as, answer_recorded, answer_given}
use Rattle.service_events.specs.State.{Kept, answers, base, folded, unfolded}
use Rattle.service_events.specs.Steps.{new_record, new_numbers, sent_rows, answer_rows, answered_replies, stepped, Stale, stale_in, step_by}
use Rattle.service_events.proofs.CallerLaws.{IsCallerRow, each_append, callers_logged}
use Rattle.service_events.proofs.CommitLaw.{answered_here, deleted_callers}
use Rattle.service_events.proofs.EntryLemmas.{asks_same_after, made_from, version_given, still_called, and_always}
use Rattle.service_events.proofs.FreshLemmas.{still_found}
use Rattle.service_events.proofs.JournalLemmas.{few_answers}
use Rattle.service_events.proofs.LiveEntryLaws.{LeavesLogged}
use Rattle.service_events.proofs.LogLemmas.{front_id, IsWith, with_entry_is}
use Rattle.service_events.proofs.PartLemmas.{IsLogged, MayCome, logged_one, as_now_same}
use Rattle.service_events.proofs.ReplyLemmas.{change_own, change_other, rising_change, all_change}
use Rattle.service_events.proofs.SearchLemmas.{found_all, found_behind}
use Rattle.request_log.proofs.FoldedLemmas.{distinct-behind}
use Rattle.service_events.proofs.HorizonLemmas.{all_entries, found_past, number_past}

-- ---- settling's rows are rows on own calls

slot_callers : (registers : List Register) (next number : ℕ) (old new : CallMade) → Each IsCallerRow (slot_rows registers next number old new)
slot_callers registers next number old new =
    cond_both (same_call old new) []
    (cond (same_text old.dest new.dest) (replaced registers number old.dest new.request ∷ []) (deleted registers number old ∷ named next new ∷ [])) (Each IsCallerRow)
    (λ _. tt)
    (λ _. cond_both (same_text old.dest new.dest) (replaced registers number old.dest new.request ∷ []) (deleted registers number old ∷ named next new ∷ []) (Each IsCallerRow)
    (λ _. (tt, tt)) (λ _. (tt, (tt, tt))))

pub settling_callers : (registers : List Register) (ns : List ℕ) (os cs : List CallMade) (next : ℕ) → Each IsCallerRow (settling_rows registers next ns os cs)
settling_callers registers (n ∷ ns) (o ∷ os) (c ∷ cs) next =
    each_append IsCallerRow (slot_rows registers next n o c) (settling_rows registers (next_after next o c) ns os cs) (slot_callers registers next n o c)
    (settling_callers registers ns os cs (next_after next o c))
settling_callers registers (n ∷ ns) (o ∷ os) [] next = deleted_callers registers (n ∷ ns) (o ∷ os)
settling_callers registers (n ∷ ns) [] cs next = tt
settling_callers registers [] [] (c ∷ cs) next = (tt, settling_callers registers [] [] cs (next + 1))
settling_callers registers [] (o ∷ os) (c ∷ cs) next = (tt, settling_callers registers [] (o ∷ os) cs (next + 1))
settling_callers registers [] [] [] next = tt
settling_callers registers [] (o ∷ os) [] next = tt

-- ---- where there is no new answer, the record answers what the old one did

same_answer : (v : ℕ) (made : Option Made) (m : Made) → is_new_answer made m ≡ false
    → Some (answer_recorded v (record_in m)) ≡ option_map (answer_recorded v) (option_map record_in made)
same_answer v None m e = cc
same_answer v (Some old) m e =
    let same = not-false (nat_eq old.version m.version && equal response.the_row.coded old.trace.response m.trace.response) e in
    let parts = and_parts (nat_eq old.version m.version) (equal response.the_row.coded old.trace.response m.trace.response) same in
    let version : old.version ≡ m.version = eqb-true old.version m.version parts.0 in
    let resp : old.trace.response ≡ m.trace.response = equal-true response.the_row.coded old.trace.response m.trace.response parts.1 in
    λ i. Some (record { answer_version = v; version = sym version i; response = sym resp i })

below_most : (n many : ℕ) → n ≤ many → many < 18446744073709551615 → raised n ≡ n + 1
below_most n many h l = omega (arith, h, l)

-- ---- the entry

-- what is known of an entry that stands in a log which follows from its journal
module _ (j : List Row) (log : List Entry) (kept : List Reply) (h : IsLogged j log kept) (e : Entry) (found : find (has_id e.id) log ≡ Some e) (m : Made) (version : m.version ≡ e.version) (slots : List ℕ) where
  abbrev answer : AnsweredRow
  answer = record { id = e.id; origin = e.origin; answer_version = raised e.answer_version; version = e.version; response = m.trace.response; live = false }

  abbrev again : Entry
  again = remade e m slots

  now_is : IsAsNow j e
  now_is = found_all (IsAsNow j) (has_id e.id) log e h.asked.now found

  answered_is : HasAnswered j e
  answered_is = found_all (HasAnswered j) (has_id e.id) log e h.answered.entries found

  replied_is : HasReply j kept e e.origin
  replied_is = found_all (λ x. HasReply j kept x x.origin) (has_id e.id) log e h.replies.entries found

  made_is : Some (made_as e) ≡ option_map asked_as (asked e.id j)
  made_is = sym (ap (option_map made_as) found) ∙ h.asked.entries e.id

  whole : IsWith (remade e m slots) log (with_entry (remade e m slots) log)
  whole = with_entry_is log (remade e m slots) e found refl h.asked.distinct

  as_before : (j' : List Row) → IsAsNow j' e → IsAsNow j' (remade e m slots)
  as_before j' n = record { version = n.version; wanted = n.wanted; request = n.request; struck = n.struck }

  raised_version : is_new_answer e.made m ≡ true → (remade e m slots).answer_version ≡ raised e.answer_version
  raised_version is = ap (λ b. raised_if b e.answer_version) is

  same_version : is_new_answer e.made m ≡ false → (remade e m slots).answer_version ≡ e.answer_version
  same_version is = ap (λ b. raised_if b e.answer_version) is

  -- ---- a new answer

  abbrev rows : List Row
  rows = Answered (record { id = e.id; origin = e.origin; answer_version = raised e.answer_version; version = e.version; response = m.trace.response; live = false }) ∷ []

  new_may : e.answer_version < 18446744073709551615 → MayCome j rows
  new_may few = record {
    takes = (now_is.version, tt);
    asks = (tt, tt);
    answers = (
      (
        made_from (asked e.id j) e.origin e.inputs made_is,
        (let given = version_given j e answered_is in below_most e.answer_version e.answer_version (omega arith) few ∙ ap (λ k. k + 1) given),
        λ live. cc,
      ),
      tt,
    );
    confirms = (tt, tt);
  }

  new_answered : is_new_answer e.made m ≡ true → HasAnswered (j ++ rows) (remade e m slots)
  new_answered is = record {
    answer = (λ i. Some (record { answer_version = raised_version is i; version = version i; response = m.trace.response }))
        ∙ sym (ap (option_map answer_given) (answered_here e.id j answer refl));
    first = λ none. cc;
  }

  marked : (c : List ℕ) (n : ℕ) → last_mark e.id c n (j ++ rows) ≡ Unsettled
  marked c n = fold_push (mark_step e.id c n) Unsettled j (Answered answer) ∙ cond-true (nat_eq e.id e.id) Unsettled (last_mark e.id c n j) (eq-eqb e.id e.id refl)

  new_reply : (c : List ℕ) (n : ℕ) (since : ℕ) → is_new_answer e.made m ≡ true → (o : Option Reply) → IsSomeAnd o (IsReply j c n e)
      → IsSomeAnd (option_map (with_answer (raised e.answer_version) e.version since) o) (IsReply (j ++ rows) c n (remade e m slots))
  new_reply c n since is None r = r
  new_reply c n since is (Some p) r = record {
    caller = r.caller;
    number = r.number;
    version = refl;
    wanted = r.wanted;
    answer_version = sym (raised_version is);
    due = r.wanted ∙ and_always e.wanted ∙ ap (λ k. e.wanted && not (settles (remade e m slots).answer_version k)) (sym (marked c n));
  }

  new_replied : (since : ℕ) → is_new_answer e.made m ≡ true → (o : Origin) → HasReply j kept e o
      → HasReply (j ++ rows) (at_entry e.id (with_answer (raised e.answer_version) e.version since) kept) (remade e m slots) o
  new_replied since is Outside r =
      change_own e.id (with_answer (raised e.answer_version) e.version since) (λ p. refl) kept ∙ ap (option_map (with_answer (raised e.answer_version) e.version since)) r
  new_replied since is (Call c n) r =
      subst (λ o. IsSomeAnd o (IsReply (j ++ rows) c n (remade e m slots))) (sym (change_own e.id (with_answer (raised e.answer_version) e.version since) (λ p. refl) kept))
      (new_reply c n since is (reply e.id kept) r)

  pub answered_anew : (since : ℕ) → is_new_answer e.made m ≡ true → e.answer_version < 18446744073709551615
      → IsLogged (j ++ rows) (with_entry (remade e m slots) log) (at_entry e.id (with_answer (raised e.answer_version) e.version since) kept)
  answered_anew since is few =
      let f = with_answer (raised e.answer_version) e.version since in
      let log' = with_entry (remade e m slots) log in
      logged_one j rows log log' kept (at_entry e.id f kept) (remade e m slots)
      (record {
        may = new_may few;
        only = (refl, tt);
        whole = whole;
        count = length-set log (position_or_len (has_id e.id) log) (remade e m slots) ∙ h.asked.count ∙ sym (fold_push count_step 0 j (Answered answer));
        made = made_is ∙ ap (option_map asked_as) (sym (asks_same_after j (Answered answer) e.id e.origin tt).made);
        called = still_called j rows log kept e h found;
        now = as_before (j ++ rows) (as_now_same j (j ++ rows) e (asks_same_after j (Answered answer) e.id e.origin tt) now_is);
        answered = new_answered is;
        replied = new_replied since is e.origin replied_is;
        others = λ id other. change_other e.id f (λ p. refl) id other kept;
        theirs = all_change e.id f (λ p. refl) (λ k. IsSome (find (has_id k) log')) kept (still_found (remade e m slots) log log' kept whole h.replies.others);
        rising = rising_change e.id f (λ p. refl) kept h.replies.rising;
      })
      h

  -- ---- no new answer

  same_reply : (c : List ℕ) (n : ℕ) → is_new_answer e.made m ≡ false → (o : Option Reply) → IsSomeAnd o (IsReply j c n e) → IsSomeAnd o (IsReply j c n (remade e m slots))
  same_reply c n is None r = r
  same_reply c n is (Some p) r = record {
    caller = r.caller;
    number = r.number;
    version = r.version;
    wanted = r.wanted;
    answer_version = r.answer_version ∙ sym (same_version is);
    due = r.due ∙ ap (λ v. e.wanted && not (settles v (last_mark e.id c n j))) (sym (same_version is));
  }

  same_replied : is_new_answer e.made m ≡ false → (o : Origin) → HasReply j kept e o → HasReply j kept (remade e m slots) o
  same_replied is Outside r = r
  same_replied is (Call c n) r = same_reply c n is (reply e.id kept) r

  same_answered : is_new_answer e.made m ≡ false → HasAnswered j (remade e m slots)
  same_answered is = record {
    answer = ap (λ v. Some (answer_recorded v (record_in m))) (same_version is)
        ∙ same_answer e.answer_version e.made m is ∙ answered_is.answer;
    first = λ none. cc;
  }

  pub answered_as_before : is_new_answer e.made m ≡ false → IsLogged (j ++ []) (with_entry (remade e m slots) log) kept
  answered_as_before is =
      let log' = with_entry (remade e m slots) log in
      let J = sym (append-nil j) in
      logged_one j [] log log' kept kept (remade e m slots)
      (record {
        may = record { takes = tt; asks = tt; answers = tt; confirms = tt };
        only = tt;
        whole = whole;
        count = length-set log (position_or_len (has_id e.id) log) (remade e m slots) ∙ h.asked.count ∙ ap asked_count J;
        made = made_is ∙ ap (λ k. option_map asked_as (asked e.id k)) J;
        called = still_called j [] log kept e h found;
        now = subst (λ k. IsAsNow k (remade e m slots)) J (as_before j now_is);
        answered = subst (λ k. HasAnswered k (remade e m slots)) J (same_answered is);
        replied = subst (λ k. HasReply k kept (remade e m slots) e.origin) J (same_replied is e.origin replied_is);
        others = λ id other. refl;
        theirs = still_found (remade e m slots) log log' kept whole h.replies.others;
        rising = h.replies.rising;
      })
      h

-- ---- the step

-- the entry that a step takes stands in the log, and a step of local repair puts what it makes of it in its place
pub record StepsAt (consumed : Consumed) (rows : List Cell) (log : List Entry) (x : Stale) : Type 0 where
  pub before : List Entry
  pub rest : List Entry
  pub is : log ≡ before ++ x.entry ∷ rest
  pub step : (remake : List Cell → Entry → Entry) → step_with consumed remake rows log ≡ before ++ remake x.rows x.entry ∷ rest

pub steps_at : (consumed : Consumed) (rows : List Cell) (log : List Entry) (x : Stale) → stale_in consumed rows log ≡ Some x → StepsAt consumed rows log x
steps_at consumed rows [] x e = cc
steps_at consumed rows (y ∷ ys) x e = elim (cases_Bool (is_current consumed rows y)) [
  | inl current ↦ (let s = steps_at consumed (after_entry rows y) ys x (rw current at e) in
      record { before = y ∷ s.before; rest = s.rest; is = ap (λ zs. y ∷ zs) s.is; step = λ remake. rw current (ap (λ zs. y ∷ zs) (s.step remake)) })
  | inr stale ↦ (let here : Some (record { entry = y; rows = rows }) ≡ Some x = rw stale at e in
      let same : record { entry = y; rows = rows } ≡ x = cc in
      record { before = []; rest = ys; is = ap (λ (z : Stale). z.entry ∷ ys) same; step = λ remake. rw stale (ap (λ (z : Stale). remake z.rows z.entry ∷ ys) same) })
]

stands_found : (consumed : Consumed) (start : List Cell) (log : List Entry) (x : Stale) → StepsAt consumed start log x → IsDistinct log → find (has_id (x.entry).id) log ≡ Some x.entry
stands_found consumed start log x s apart =
    subst (λ l. find (has_id (x.entry).id) l ≡ Some x.entry) (sym s.is)
    (found_behind (has_id (x.entry).id) s.before x.entry s.rest (front_id s.before x.entry s.rest (subst IsDistinct s.is apart)) (eq-eqb (x.entry).id (x.entry).id refl))

-- the entry that a step of a service takes: it is found by its number, behind the folded ones
pub record IsTaken (s : Kept) (x : Stale) : Type 0 where
  pub at : StepsAt (answers s) (base s) (unfolded s) x
  pub behind : find (has_id (x.entry).id) (unfolded s) ≡ Some x.entry
  pub past : find (has_id (x.entry).id) (folded s) ≡ None
  pub found : find (has_id (x.entry).id) s.entries ≡ Some x.entry

pub apart_behind : (s : Kept) → IsDistinct s.entries → IsDistinct (unfolded s)
apart_behind s apart = (let D : List Entry → Type 0 = λ l. IsDistinct l in distinct-behind (folded s) (unfolded s) (subst D (sym (all_entries s)) apart))

pub is_taken : (s : Kept) (x : Stale) → stale_in (answers s) (base s) (unfolded s) ≡ Some x → IsDistinct s.entries → IsTaken s x
is_taken s x is apart =
    let p : Entry → Bool = has_id (x.entry).id in
    let at = steps_at (answers s) (base s) (unfolded s) x is in
    let behind = stands_found (answers s) (base s) (unfolded s) x at (apart_behind s apart) in
    let past = number_past s p x.entry apart behind in
    record { at = at; behind = behind; past = past; found = found_past s p past ∙ behind }

-- a journal has fewer rows than a number of 64 bits counts
abbrev pub IsFew : Kept → Type 0
IsFew s = length s.journal < 2 ^ 64

module _ (s : Kept) (h : IsLogged s.journal s.entries s.replies) where
  small : (e : Entry) (m : Made) → is_new_answer e.made m ≡ true → e.answer_version ≤ length s.journal → length (s.journal ++ (sent_rows s e m ++ answer_rows e m)) < 2 ^ 64
      → e.answer_version < 18446744073709551615
  small e m is most few =
      let one : length (answer_rows e m) ≡ 1 = ap (λ b. length (cond b (Answered (record { id = e.id; origin = e.origin; answer_version = raised e.answer_version; version = e.version; response = m.trace.response; live = false }) ∷ []) [])) is in
      let whole = length-append s.journal (sent_rows s e m ++ answer_rows e m) in
      let behind = length-append (sent_rows s e m) (answer_rows e m) in
      omega (arith, most, few, one, whole, behind)

  -- what it leaves where the answer is a new one, and where it isn't
  abbrev outcome : Entry → Made → Bool → Type 0
  outcome e m b =
      IsLogged ((s.journal ++ sent_rows s e m)
      ++ cond b (Answered (record { id = e.id; origin = e.origin; answer_version = raised e.answer_version; version = e.version; response = m.trace.response; live = false }) ∷ []) [])
      (with_entry (remade e m (new_numbers s e m)) s.entries)
      (cond b (at_entry e.id (with_answer (raised e.answer_version) e.version (length s.journal + length (sent_rows s e m))) s.replies) s.replies)

  either : (e : Entry) (m : Made) (b : Bool) → is_new_answer e.made m ≡ b → IsLogged (s.journal ++ sent_rows s e m) s.entries s.replies → (is_new_answer e.made m ≡ true → e.answer_version < 18446744073709551615)
      → find (has_id e.id) s.entries ≡ Some e → m.version ≡ e.version
      → IsLogged ((s.journal ++ sent_rows s e m) ++ answer_rows e m) (with_entry (remade e m (new_numbers s e m)) s.entries) (answered_replies s e m)
  either e m true is before few found version =
      subst (outcome e m) (sym is)
      (answered_anew (s.journal ++ sent_rows s e m) s.entries s.replies before e found m version (new_numbers s e m) (length s.journal + length (sent_rows s e m)) is (few is))
  either e m false is before few found version =
      subst (outcome e m) (sym is) (answered_as_before (s.journal ++ sent_rows s e m) s.entries s.replies before e found m version (new_numbers s e m) is)

  stepped_logged : (e : Entry) (m : Made) → find (has_id e.id) s.entries ≡ Some e → m.version ≡ e.version → IsFew (stepped s e m).service → LeavesLogged (stepped s e m)
  stepped_logged e m found version few =
      let sent = sent_rows s e m in
      let before = callers_logged s.journal sent s.entries s.replies (settling_callers s.registers e.slots (calls_of_made e.made) m.trace.calls (next_number s.registers)) h in
      let given = version_given s.journal e (found_all (HasAnswered s.journal) (has_id e.id) s.entries e h.answered.entries found) in
      let rows = few_answers s.journal h.answered.rows e.id in
      let most : e.answer_version ≤ length s.journal = omega (arith, given, rows) in
      subst (λ j. IsLogged j (with_entry (remade e m (new_numbers s e m)) s.entries) (answered_replies s e m)) (append_assoc s.journal sent (answer_rows e m))
      (either e m (is_new_answer e.made m) refl before (λ is. small e m is most few) found version)

  pub step_by_logged : (o : Option Stale) → stale_in (answers s) (base s) (unfolded s) ≡ o → IsFew (step_by s o).service → LeavesLogged (step_by s o)
  step_by_logged None is few = h
  step_by_logged (Some x) is few =
      stepped_logged x.entry (new_record s x.rows x.entry) (is_taken s x is h.asked.distinct).found refl few
