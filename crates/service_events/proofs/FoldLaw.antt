-- A fold of the first entries: what is kept of them is what they were but for what they read and wrote, nothing else changes, and the service
-- fits its journal as before.
use Rattle.std.proofs.Common.{◌≡◌, ℕ, ◌+◌, ◌≤◌, Bool, true, false, not, ◌&&◌, cond, List, [], ◌∷◌, ◌++◌, All, Option, Some, None, IsSome, IsSomeAnd, drop, find, is_some, length, map, nat_eq, nat_lt, option_map, take, refl, sym, ap, ◌∙◌, subst, arith, inl, inr, take-append-drop, drop-drop, append_assoc, eqb-true}
use Rattle.std.specs.List.{last_or, list_all, position_or_len}
use Rattle.std.specs.Option.{option_map_or}
use Rattle.std.proofs.lemmas.Bool.{and_parts, cases_Bool, ltb-false}
use Rattle.std.proofs.lemmas.List.{length-drop, length-take, length-take-le, map-append, take_at}
use Rattle.std.proofs.lemmas.List.Elements.{All-append, All-cons, All-head, All-nil, All-tail, All-take, All-weaker}
use Rattle.std.proofs.Math.Seq.{take-add, take-append_seam, take-append-add}
use Rattle.lang_core.specs.Origins.{is_call}
use Rattle.lang_core.specs.declared.cells.Cell.{Cell}
use Rattle.lang_core.specs.declared.ids.Origin.{Origin}
use Rattle.lang_core.specs.declared.ids.Origin.TheVariants.{Outside, Call}
use Rattle.lang_programs.specs.Under.{Under}
use Rattle.request_log.specs.Entries.{find_call, has_id, has_origin, IsDistinct}
use Rattle.request_log.specs.Folded.{as_entry, bare, bare_by, folded_with}
use Rattle.request_log.specs.Records.{Record, record_in, record_of, recorded_calls}
use Rattle.request_log.specs.declared.entry.Entry.{Entry}
use Rattle.request_log.specs.declared.entry.Made.{Made}
use Rattle.local_repair.specs.Current.{AllCurrent, AllRuns, Consumed, IsCurrent, IsCurrentRecord, after_entry, rows_after}
use Rattle.local_repair.specs.Histories.{ReplayAsKept}
use Rattle.local_repair.specs.Tests.{is_current}
use Rattle.local_repair.proofs.PastLemmas.{fold_kept}
use Rattle.local_repair.proofs.TestLemmas.{is_current-true}
use Rattle.journal_rows.specs.declared.row.Row.{Row}
use Rattle.call_registers.specs.Registers.{is_done_with, owes_fetch, register}
use Rattle.call_registers.specs.Replies.{reply}
use Rattle.call_registers.specs.declared.register.Register.{Register}
use Rattle.call_registers.specs.declared.reply.Reply.{Reply}
use Rattle.service_events.specs.Fits.{Fits, FitsHorizon, FitsPlaces, HasAnswered, HasReply, IsAsNow, IsBare, IsDoneWith, IsPast, IsReply, calls_of_entry, calls_of_flight, made_as, answer_recorded}
use Rattle.service_events.specs.Orders.{first_unquiet, folded_on, is_due, is_quiet_call, is_quiet_entry, to_fold}
use Rattle.service_events.specs.State.{Kept, KeepsFolded, answers, base, folded, unfolded}
use Rattle.service_events.proofs.HorizonLemmas.{mapped_behind, mapped_front}
use Rattle.service_events.proofs.PartLemmas.{IsLogged}
use Rattle.service_events.proofs.RunLemmas.{HasRun}
use Rattle.service_events.proofs.SearchLemmas.{place_is, splits}
use Rattle.journal_rows.specs.Words.{last_folded}

-- ---- what is tested of those that are folded

-- the call of this number is done with
abbrev pub IsDoneCall : Kept → ℕ → Type 0
IsDoneCall s number = IsSomeAnd (register number s.registers) IsDoneWith

-- an entry that is folded: current, and with calls that are done with
pub record IsQuietEntry (s : Kept) (rows : List Cell) (e : Entry) : Type 0 where
  pub current : IsCurrent (answers s) rows e
  pub calls : All (IsDoneCall s) e.slots

-- each of these, where these are the rows before them
abbrev pub AreQuietEntries : Kept → List Cell → List Entry → Type 0
AreQuietEntries s rows [] = Unit {0}
AreQuietEntries s rows (e ∷ es) = IsQuietEntry s rows e × AreQuietEntries s (after_entry rows e) es

done_with : (r : Register) → is_done_with r ≡ true → IsDoneWith r
done_with r h =
    let parts = and_parts (not (nat_lt r.acked r.version)) (not (owes_fetch r)) h in
    record { acked = ltb-false r.acked r.version (not-true (nat_lt r.acked r.version) parts.0); fetched = not-true (owes_fetch r) parts.1 }
  where
    not-true : (b : Bool) → not b ≡ true → b ≡ false
    not-true true h = cc
    not-true false h = refl

call_done : (o : Option Register) → option_map_or is_done_with o false ≡ true → IsSomeAnd o IsDoneWith
call_done None h = cc
call_done (Some r) h = done_with r h

calls_done : (s : Kept) (ns : List ℕ) → list_all (is_quiet_call s) ns ≡ true → All (IsDoneCall s) ns
calls_done s [] h = All-nil (IsDoneCall s)
calls_done s (n ∷ ns) h =
    let parts = and_parts (is_quiet_call s n) (list_all (is_quiet_call s) ns) h in
    All-cons (IsDoneCall s) n ns (call_done (register n s.registers) parts.0) (calls_done s ns parts.1)

quiet_is : (s : Kept) (rows : List Cell) (e : Entry) → is_quiet_entry s rows e ≡ true → IsQuietEntry s rows e
quiet_is s rows e h =
    let calls = and_parts (is_current (answers s) rows e && not (is_due s e)) (list_all (is_quiet_call s) e.slots) h in
    let first = and_parts (is_current (answers s) rows e) (not (is_due s e)) calls.0 in
    record { current = is_current-true (answers s) rows e first.0; calls = calls_done s e.slots calls.1 }

pub quiet_are : (s : Kept) (es : List Entry) (rows : List Cell) → first_unquiet s rows es ≡ None → AreQuietEntries s rows es
quiet_are s [] rows h = tt
quiet_are s (e ∷ es) rows h = elim (cases_Bool (is_quiet_entry s rows e)) [
  | inl is ↦ (quiet_is s rows e is, quiet_are s es (after_entry rows e) (rw is at h))
  | inr isnt ↦ (let never : Some e.id ≡ None = rw isnt at h in cc)
]

all_current : (s : Kept) (es : List Entry) (rows : List Cell) → AreQuietEntries s rows es → AllCurrent (answers s) rows es
all_current s [] rows h = tt
all_current s (e ∷ es) rows h = (h.0.current, all_current s es (after_entry rows e) h.1)

-- ---- an entry that is bare

-- an entry like another one, but perhaps under another program: others see the same of its record
pub record IsAlike (x y : Entry) : Type 0 where
  pub same : y ≡ record x { under = y.under; made = y.made }
  pub seen : record_of y ≡ record_of x

pub alike_self : (x : Entry) → IsAlike x x
alike_self x = record { same = refl; seen = refl }

bare_same : (e : Entry) (o : Option Made)
    → bare_by e (option_map record_in o) ≡ record e { under = (bare_by e (option_map record_in o)).under; made = (bare_by e (option_map record_in o)).made }
bare_same e None = refl
bare_same e (Some m) = refl

bare_seen : (consumed : Consumed) (rows : List Cell) (e : Entry) (o : Option Made) → e.made ≡ o → IsSomeAnd o (λ m. IsCurrentRecord consumed rows e m)
    → record_of (bare_by e (option_map record_in o)) ≡ option_map record_in o
bare_seen consumed rows e None is h = absurd h
bare_seen consumed rows e (Some m) is h =
    let alive = sym h.alive in
    let version = sym h.version in
    let request = sym h.request in
    (λ i. Some (record { alive = alive i; version = version i; request = request i; calls = m.trace.calls; answers = m.trace.answers; response = m.trace.response }))

-- one that is current is, once it is folded, like what it was
pub alike_bare : (consumed : Consumed) (rows : List Cell) (e : Entry) → IsCurrent consumed rows e → IsAlike e (bare e)
alike_bare consumed rows e h = record { same = bare_same e e.made; seen = bare_seen consumed rows e e.made refl h }

is_bare_by : (e : Entry) (o : Option Made) → IsSome o → IsSomeAnd (bare_by e (option_map record_in o)).made (IsBare (bare_by e (option_map record_in o)))
is_bare_by e None some = cc
is_bare_by e (Some m) some = record { alive = refl; version = refl; request = refl; reads = refl; writes = refl }

-- one that is bare, and whose record was made under its program, stays as it is
bare_again_by : (e : Entry) (o : Option Made) → e.made ≡ o → IsSomeAnd o (IsBare e) → e.under.ran ≡ e.under.now → bare_by e (option_map record_in o) ≡ e
bare_again_by e None is h ran = absurd h
bare_again_by e (Some m) is h ran =
    let under = sym ran in
    let alive = sym h.alive in
    let version = sym h.version in
    let request = sym h.request in
    let reads = sym h.reads in
    let writes = sym h.writes in
    let kept : as_entry (folded_with e (record_in m)) ≡ record e { made = Some m } =
    (λ i. record e {
      under = record { now = e.under.now; ran = under i };
      made = Some (record {
        alive = alive i;
        version = version i;
        request = request i;
        trace = record { reads = reads i; calls = m.trace.calls; answers = m.trace.answers; writes = writes i; response = m.trace.response };
      });
    }) in
    kept ∙ ap (λ (o : Option Made). record e { made = o }) (sym is)

-- what is told of a folded entry
abbrev IsBareEntry : Entry → Type 0
IsBareEntry e = IsSomeAnd e.made (IsBare e) × (e.under.ran ≡ e.under.now)

bare_again : (e : Entry) → IsBareEntry e → bare e ≡ e
bare_again e h = bare_again_by e e.made refl h.0 h.1

-- ---- logs whose entries are alike

abbrev pub AreAlike : List Entry → List Entry → Type 0
AreAlike [] [] = Unit {0}
AreAlike (x ∷ xs) (y ∷ ys) = IsAlike x y × AreAlike xs ys
AreAlike xs ys = ⊥

pub alike_selves : (xs : List Entry) → AreAlike xs xs
alike_selves [] = tt
alike_selves (x ∷ xs) = (alike_self x, alike_selves xs)

pub alike_append : (xs xs' ys ys' : List Entry) → AreAlike xs xs' → AreAlike ys ys' → AreAlike (xs ++ ys) (xs' ++ ys')
alike_append [] [] ys ys' h k = k
alike_append [] (x' ∷ xs') ys ys' h k = absurd h
alike_append (x ∷ xs) [] ys ys' h k = absurd h
alike_append (x ∷ xs) (x' ∷ xs') ys ys' h k = (h.0, alike_append xs xs' ys ys' h.1 k)

alike_past : (es : List Entry) → All IsBareEntry es → AreAlike es (map bare es)
alike_past [] h = tt
alike_past (e ∷ es) h =
    let A : Entry → Type 0 = λ x. IsAlike e x in
    (subst A (sym (bare_again e (All-head IsBareEntry e es h))) (alike_self e), alike_past es (All-tail IsBareEntry e es h))

alike_quiet : (s : Kept) (es : List Entry) (rows : List Cell) → AreQuietEntries s rows es → AreAlike es (map bare es)
alike_quiet s [] rows h = tt
alike_quiet s (e ∷ es) rows h = (alike_bare (answers s) rows e h.0.current, alike_quiet s es (after_entry rows e) h.1)

-- what is found is alike, by a test of what is alike
abbrev FoundAlike : Option Entry → Option Entry → Type 0
FoundAlike None None = Unit {0}
FoundAlike (Some x) (Some y) = IsAlike x y
FoundAlike o o' = ⊥

module _ (p : Entry → Bool) (sees : (x y : Entry) → IsAlike x y → p y ≡ p x) where
  found_one : (x y : Entry) (b c : Bool) (o o' : Option Entry) → c ≡ b → IsAlike x y → FoundAlike o o' → FoundAlike (cond b (Some x) o) (cond c (Some y) o')
  found_one x y true true o o' e h k = h
  found_one x y true false o o' e h k = cc
  found_one x y false true o o' e h k = cc
  found_one x y false false o o' e h k = k

  found_alike : (xs ys : List Entry) → AreAlike xs ys → FoundAlike (find p xs) (find p ys)
  found_alike [] [] h = tt
  found_alike [] (y ∷ ys) h = absurd h
  found_alike (x ∷ xs) [] h = absurd h
  found_alike (x ∷ xs) (y ∷ ys) h = found_one x y (p x) (p y) (find p xs) (find p ys) (sees x y h.0) h.0 (found_alike xs ys h.1)

made_alike : (o o' : Option Entry) → FoundAlike o o' → option_map made_as o' ≡ option_map made_as o
made_alike None None h = refl
made_alike None (Some y) h = absurd h
made_alike (Some x) None h = absurd h
made_alike (Some x) (Some y) h = ap (λ (e : Entry). Some (made_as e)) h.same

there_alike : (o o' : Option Entry) → FoundAlike o o' → is_some o' ≡ is_some o
there_alike None None h = refl
there_alike None (Some y) h = absurd h
there_alike (Some x) None h = absurd h
there_alike (Some x) (Some y) h = refl

pub count_alike : (xs ys : List Entry) → AreAlike xs ys → length ys ≡ length xs
count_alike [] [] h = refl
count_alike [] (y ∷ ys) h = absurd h
count_alike (x ∷ xs) [] h = absurd h
count_alike (x ∷ xs) (y ∷ ys) h = (let rest = count_alike xs ys h.1 in omega (arith, rest))

-- what holds of each holds of each that is alike
all_alike : (P Q : Entry → Type 0) → ((x y : Entry) → IsAlike x y → P x → Q y) → (xs ys : List Entry) → AreAlike xs ys → All P xs → All Q ys
all_alike P Q w [] [] h all = All-nil Q
all_alike P Q w [] (y ∷ ys) h all = absurd h
all_alike P Q w (x ∷ xs) [] h all = absurd h
all_alike P Q w (x ∷ xs) (y ∷ ys) h all = All-cons Q y ys (w x y h.0 (All-head P x xs all)) (all_alike P Q w xs ys h.1 (All-tail P x xs all))

pub same_calls : (xs ys : List Entry) → AreAlike xs ys → map calls_of_entry ys ≡ map calls_of_entry xs
same_calls [] [] h = refl
same_calls [] (y ∷ ys) h = absurd h
same_calls (x ∷ xs) [] h = absurd h
same_calls (x ∷ xs) (y ∷ ys) h =
    let slots : y.slots ≡ x.slots = ap (λ (e : Entry). e.slots) h.0.same in
    let head : calls_of_entry y ≡ calls_of_entry x = (λ i. record { numbers = slots i; calls = recorded_calls (h.0.seen i) }) in
    let rest = same_calls xs ys h.1 in
    (λ i. head i ∷ rest i)

none_alike : (o o' : Option Entry) → FoundAlike o o' → o ≡ None → o' ≡ None
none_alike None None h none = refl
none_alike None (Some y) h none = absurd h
none_alike (Some x) o' h none = cc

-- no number and no call stands twice among them either
pub apart_alike : (xs ys : List Entry) → AreAlike xs ys → IsDistinct xs → IsDistinct ys
apart_alike [] [] h d = tt
apart_alike [] (y ∷ ys) h d = absurd h
apart_alike (x ∷ xs) [] h d = absurd h
apart_alike (x ∷ xs) (y ∷ ys) h d =
    let id : y.id ≡ x.id = ap (λ (e : Entry). e.id) h.0.same in
    let origin : y.origin ≡ x.origin = ap (λ (e : Entry). e.origin) h.0.same in (
      record {
        id = ap (λ k. find (has_id k) ys) id
            ∙ none_alike (find (has_id x.id) xs) (find (has_id x.id) ys) (found_alike (has_id x.id) (λ v w a. ap (λ (e : Entry). nat_eq e.id x.id) a.same) xs ys h.1) d.0.id;
        origin = ap (λ o. find_call o ys) origin ∙ uncalled x.origin d.0.origin;
      },
      apart_alike xs ys h.1 d.1,
    )
  where
    uncalled : (o : Origin) → find_call o xs ≡ None → find_call o ys ≡ None
    uncalled Outside none = refl
    uncalled (Call c n) none =
        none_alike (find (has_origin c n) xs) (find (has_origin c n) ys) (found_alike (has_origin c n) (λ v w a. ap (λ (e : Entry). is_call c n e.origin) a.same) xs ys h.1) none

-- ---- such a log follows from the journal as the other one does

module _ (j : List Row) (kept : List Reply) where
  -- under another program, and with another record that others see as the same
  now_alike : (x : Entry) (under : Under) (made : Option Made) → IsAsNow j x → IsAsNow j (record x { under = under; made = made })
  now_alike x under made n = record { version = n.version; wanted = n.wanted; request = n.request; struck = n.struck }

  answered_alike : (x : Entry) (under : Under) (made : Option Made) → record_of (record x { under = under; made = made }) ≡ record_of x → HasAnswered j x
      → HasAnswered j (record x { under = under; made = made })
  answered_alike x under made seen h = record {
    answer = ap (option_map (answer_recorded x.answer_version)) seen ∙ h.answer;
    first = λ none. h.first (sym seen ∙ none);
  }

  reply_alike : (x : Entry) (under : Under) (made : Option Made) (c : List ℕ) (n : ℕ) (o : Option Reply) → IsSomeAnd o (IsReply j c n x)
      → IsSomeAnd o (IsReply j c n (record x { under = under; made = made }))
  reply_alike x under made c n None h = h
  reply_alike x under made c n (Some p) h = record { caller = h.caller; number = h.number; version = h.version; wanted = h.wanted; answer_version = h.answer_version; due = h.due }

  replied_alike : (x : Entry) (under : Under) (made : Option Made) (o : Origin) → HasReply j kept x o → HasReply j kept (record x { under = under; made = made }) o
  replied_alike x under made Outside h = h
  replied_alike x under made (Call c n) h = reply_alike x under made c n (reply x.id kept) h

  pub logged_alike : (xs ys : List Entry) → AreAlike xs ys → IsLogged j xs kept → IsLogged j ys kept
  logged_alike xs ys alike h = record {
    taken = h.taken;
    asked = record {
      rows = h.asked.rows;
      count = count_alike xs ys alike ∙ h.asked.count;
      distinct = apart_alike xs ys alike h.asked.distinct;
      entries = λ id. made_alike (find (has_id id) xs) (find (has_id id) ys) (found_alike (has_id id) (λ x y a. ap (λ (e : Entry). nat_eq e.id id) a.same) xs ys alike) ∙ h.asked.entries id;
      calls = λ c n. (let same = there_alike (find (has_origin c n) xs) (find (has_origin c n) ys)
          (found_alike (has_origin c n) (λ x y a. ap (λ (e : Entry). is_call c n e.origin) a.same) xs ys alike) in
          let old = h.asked.calls c n in (λ there. old.0 (sym same ∙ there), λ took. same ∙ old.1 took));
      now = all_alike (IsAsNow j) (IsAsNow j) (λ x y a n. subst (λ e. IsAsNow j e) (sym a.same) (now_alike x y.under y.made n)) xs ys alike h.asked.now;
    };
    answered = record {
      rows = h.answered.rows;
      entries = all_alike (HasAnswered j) (HasAnswered j)
          (λ x y a n. subst (λ e. HasAnswered j e) (sym a.same) (answered_alike x y.under y.made (ap record_of (sym a.same) ∙ a.seen) n)) xs ys alike h.answered.entries;
    };
    replies = record {
      rows = h.replies.rows;
      entries = all_alike (λ e. HasReply j kept e e.origin) (λ e. HasReply j kept e e.origin)
          (λ x y a n. subst (λ e. HasReply j kept e e.origin) (sym a.same) (replied_alike x y.under y.made x.origin n)) xs ys alike h.replies.entries;
      others = All-weaker (λ (p : Reply). IsSome (find (has_id p.id) xs)) (λ (p : Reply). IsSome (find (has_id p.id) ys)) (λ p. there_too p.id) kept h.replies.others;
      rising = h.replies.rising;
    };
  }
    where
      there_too : (id : ℕ) → IsSome (find (has_id id) xs) → IsSome (find (has_id id) ys)
      there_too id some = there_alike (find (has_id id) xs) (find (has_id id) ys) (found_alike (has_id id) (λ x y a. ap (λ (e : Entry). nat_eq e.id id) a.same) xs ys alike) ∙ some

-- ---- a fold

bare_id : (e : Entry) → (bare e).id ≡ e.id
bare_id e = ap (λ (x : Entry). x.id) (bare_same e e.made)

last_behind : {X : Type 0} (o : Option X) (xs : List X) (x : X) → last_or o (xs ++ x ∷ []) ≡ Some x
last_behind o [] x = refl
last_behind o (y ∷ ys) x = last_behind (Some y) ys x

take_length : {X : Type 0} (k : ℕ) (xs : List X) → take (length (take k xs)) xs ≡ take k xs
take_length k xs =
    ap (take (length (take k xs))) (sym (take-append-drop k xs)) ∙ take-append_seam (take k xs) (drop k xs)

-- a fold up to an entry that is there and isn't folded, where all that it folds is quiet
module _ (s : Kept) (f : Fits s) (id : ℕ) (e : Entry) (there : find (has_id id) (unfolded s) ≡ Some e) (quiet : first_unquiet s (base s) (to_fold id s) ≡ None) where
  abbrev now : List Entry
  now = to_fold id s

  abbrev n : ℕ
  n = length (to_fold id s)

  abbrev t : Kept
  t = folded_on (length (to_fold id s)) s

  are : AreQuietEntries s (base s) (to_fold id s)
  are = quiet_are s (to_fold id s) (base s) quiet

  pub first : take n (unfolded s) ≡ to_fold id s
  first = take_length (position_or_len (has_id id) (unfolded s) + 1) (unfolded s)

  -- all that are folded then, as they were
  front : take (s.horizon + n) s.entries ≡ folded s ++ to_fold id s
  front = take-add s.horizon n s.entries ∙ ap (λ l. folded s ++ l) first

  bares : All IsBareEntry (folded s)
  bares = λ k d l. ((f.horizon.each k d l).bare, (f.programs.past k d l).ran)

  bare_front : map bare (folded s) ≡ folded s
  bare_front = all_bare (folded s) bares
    where
      all_bare : (es : List Entry) → All IsBareEntry es → map bare es ≡ es
      all_bare [] h = refl
      all_bare (x ∷ xs) h =
          let head = bare_again x (All-head IsBareEntry x xs h) in
          let rest = all_bare xs (All-tail IsBareEntry x xs h) in
          (λ i. head i ∷ rest i)

  -- and as they are
  pub then_folded : folded t ≡ folded s ++ map bare (to_fold id s)
  then_folded =
      mapped_front bare (s.horizon + n) s.entries ∙ ap (map bare) front ∙ map-append bare (folded s) (to_fold id s) ∙ ap (λ l. l ++ map bare (to_fold id s)) bare_front

  pub then_unfolded : unfolded t ≡ drop n (unfolded s)
  then_unfolded = mapped_behind bare (s.horizon + n) s.entries ∙ sym (drop-drop n s.horizon s.entries)

  pub entries_alike : AreAlike s.entries t.entries
  entries_alike =
      let k = s.horizon + n in
      let A : List Entry → Type 0 = λ l. AreAlike l (map bare l) in
      let whole : AreAlike (take k s.entries) (map bare (take k s.entries)) =
      subst A (sym front) (subst (λ l. AreAlike (folded s ++ to_fold id s) l) (sym (map-append bare (folded s) (to_fold id s)))
      (alike_append (folded s) (map bare (folded s)) (to_fold id s) (map bare (to_fold id s)) (alike_past (folded s) bares) (alike_quiet s (to_fold id s) (base s) are))) in
      subst (λ l. AreAlike l t.entries) (take-append-drop k s.entries)
      (alike_append (take k s.entries) (map bare (take k s.entries)) (drop k s.entries) (drop k s.entries) whole (alike_selves (drop k s.entries)))

  pub fold_logged : (j : List Row) → IsLogged j s.entries s.replies → IsLogged j t.entries t.replies
  fold_logged j l = logged_alike j s.replies s.entries t.entries entries_alike l

  pub fold_places : (registers : List Register) → FitsPlaces registers (map calls_of_entry s.entries ++ map calls_of_flight s.flights)
      → FitsPlaces registers (map calls_of_entry t.entries ++ map calls_of_flight t.flights)
  fold_places registers h =
      subst (λ ps. FitsPlaces registers (ps ++ map calls_of_flight s.flights)) (sym (same_calls s.entries t.entries entries_alike)) h

  -- what is told of the folded entries
  past_by : (j : List Row) (e : Entry) (rows : List Cell) → IsQuietEntry s rows e → IsPast (record t { journal = j }) (bare e)
  past_by j e rows q =
      let a = alike_bare (answers s) rows e q.current in
      let slots : (bare e).slots ≡ e.slots = ap (λ (x : Entry). x.slots) a.same in
      record {
        bare = is_bare_by e e.made (has_record e.made q.current);
        calls = subst (λ ns. All (IsDoneCall s) ns) (sym slots) q.calls;
        consumed = subst (λ o. IsSomeAnd o (λ (r : Record). r.answers ≡ map (answers s) (bare e).slots)) (sym a.seen)
            (consumed_by e.made (bare e).slots (sym slots) q.current);
      }
    where
      has_record : (o : Option Made) → IsSomeAnd o (IsCurrentRecord (answers s) rows e) → IsSome o
      has_record None h = absurd h
      has_record (Some m) h = refl

      consumed_by : (o : Option Made) (ns : List ℕ) → e.slots ≡ ns → IsSomeAnd o (IsCurrentRecord (answers s) rows e)
          → IsSomeAnd (option_map record_in o) (λ (r : Record). r.answers ≡ map (answers s) ns)
      consumed_by None ns is h = absurd h
      consumed_by (Some m) ns is h = h.answers ∙ ap (map (answers s)) is

  past_now : (j : List Row) (es : List Entry) (rows : List Cell) → AreQuietEntries s rows es → All (IsPast (record t { journal = j })) (map bare es)
  past_now j [] rows h = All-nil (IsPast (record t { journal = j }))
  past_now j (x ∷ xs) rows h =
      All-cons (IsPast (record t { journal = j })) (bare x) (map bare xs) (past_by j x rows h.0) (past_now j xs (after_entry rows x) h.1)

  still_past : (j : List Row) (x : Entry) → IsPast s x → IsPast (record t { journal = j }) x
  still_past j x p = record { bare = p.bare; calls = p.calls; consumed = p.consumed }

  -- the last of them is the one that the fold names
  last_is : option_map (λ (x : Entry). x.id) (last_or None (folded t)) ≡ Some id
  last_is =
      let p : Entry → Bool = has_id id in
      let at = splits p (unfolded s) e there in
      let place : position_or_len p (unfolded s) ≡ length at.before = ap (position_or_len p) at.is ∙ place_is p at.before e at.rest at.none at.passes in
      let upto : to_fold id s ≡ at.before ++ e ∷ [] =
      ap (λ (k : ℕ). take (k + 1) (unfolded s)) place ∙ ap (take (length at.before + 1)) at.is ∙ front_of at.before e at.rest in
      let ends : folded t ≡ (folded s ++ map bare at.before) ++ bare e ∷ [] =
      then_folded ∙ ap (λ l. folded s ++ map bare l) upto ∙ ap (λ l. folded s ++ l) (map-append bare at.before (e ∷ [])) ∙ sym (append_assoc (folded s) (map bare at.before) (bare e ∷ [])) in
      ap (λ l. option_map (λ (x : Entry). x.id) (last_or None l)) ends
      ∙ ap (option_map (λ (x : Entry). x.id)) (last_behind None (folded s ++ map bare at.before) (bare e))
      ∙ ap Some (bare_id e ∙ eqb-true e.id id at.passes)
    where
      front_of : (xs : List Entry) (x : Entry) (ys : List Entry) → take (length xs + 1) (xs ++ x ∷ ys) ≡ xs ++ x ∷ []
      front_of xs x ys = take-append-add xs (x ∷ ys) 1

  within_then : (s.horizon + n) ≤ length t.entries
  within_then =
      let many = count_alike s.entries t.entries entries_alike in
      let most = length-take (position_or_len (has_id id) (unfolded s) + 1) (unfolded s) in
      let rest = length-drop s.horizon s.entries in
      let few = f.horizon.within in
      omega (arith, many, most, rest, few)

  -- what was folded before stays
  pub fold_keeps : (j : List Row) → KeepsFolded s (record t { journal = j })
  fold_keeps j =
      let h = s.horizon in
      let few : length (folded s) ≡ h = length-take-le h s.entries f.horizon.within in
      let first : length (take h t.entries) ≡ h = length-take-le h t.entries (let all = within_then in omega (arith, all)) in
      let parts : take h t.entries ++ take n (drop h t.entries) ≡ folded s ++ map bare (to_fold id s) = sym (take-add h n t.entries) ∙ then_folded in
      record {
        within = omega arith;
        entries = sym (take_at (take h t.entries) (take n (drop h t.entries)) h first) ∙ ap (take h) parts ∙ take_at (folded s) (map bare (to_fold id s)) h few;
      }

  runs_first : AllRuns s.setting (to_fold id s)
  runs_first = All-take (HasRun s.setting) (position_or_len (has_id id) (unfolded s) + 1) (unfolded s) f.runs

  pub fold_horizon : (j : List Row) → last_folded j ≡ Some id → FitsHorizon (record t { journal = j })
  fold_horizon j told = record {
    within = within_then;
    last = last_is ∙ sym told;
    each = subst (λ l. All (IsPast (record t { journal = j })) l) (sym then_folded)
        (All-append (IsPast (record t { journal = j })) (folded s) (map bare (to_fold id s))
        (All-weaker (IsPast s) (IsPast (record t { journal = j })) (still_past j) (folded s) f.horizon.each)
        (past_now j (to_fold id s) (base s) are));
    replayed = (let E : List Entry → Type 0 = λ l. ReplayAsKept s.setting l (base t) in
        let B : List Entry → Type 0 = λ l. ReplayAsKept s.setting (folded s ++ map bare (to_fold id s)) (rows_after (base s) l) in
        subst E (sym then_folded) (subst B (sym first)
        (fold_kept s.setting (answers s) (folded s) (base s) (to_fold id s) f.horizon.replayed runs_first (all_current s (to_fold id s) (base s) are))));
  }
