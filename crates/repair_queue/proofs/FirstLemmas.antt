-- The first key whose post is outstanding is that of the oldest such post.
use Rattle.std.proofs.Common.{◌≡◌, ◌∙◌, refl, sym, ap, subst, ℕ, zero, suc, ◌<◌, ◌≤◌, Bool, true, false, ◌&&◌, List, [], ◌∷◌, Option, Some, None, cond, find, fold, length, get_or, nat_eq, nat_lt, not, is_none, option_map, inl, inr, arith}
use Rattle.std.specs.List.{list_any, Contains}
use Rattle.std.specs.Option.{option_and_then, option_map_or}
use Rattle.std.specs.Cmp.Lexicographic.{same_text as text_is}
use Rattle.std.proofs.lemmas.Bool.{and_parts, cases_Bool, cases_order, le-ltb, lt-ltb}
use Rattle.std.proofs.lemmas.Bool.Decides.{nat_tests}
use Rattle.std.proofs.lemmas.List.{get_or_default}
use Rattle.std.proofs.lemmas.Option.{cond_some, option_and_then_some}
use Rattle.lang_lists.specs.Keys.{text_key}
use Rattle.lang_base.specs.Texts.{same_text}
use Rattle.lang_lists.specs.Ages.{is_before}
use Rattle.lang_lists.specs.declared.age_keys.AgeKey.{AgeKey}
use Rattle.lang_lists.proofs.AgeLemmas.{not_itself}
use Rattle.call_registers.specs.Queues.{AreOldestFirst}
use Rattle.call_registers.specs.Registers.{has_number, owes_fetch, IsNumbered}
use Rattle.call_registers.specs.Replies.{age_key as reply_key, due_key, has_entry, AreDue, IsRising}
use Rattle.call_registers.specs.Waiting.{age_key, fetch_key, noted_key, waiting_key, AreFetched, AreWaiting}
use Rattle.call_registers.specs.declared.register.Register.{Register}
use Rattle.call_registers.specs.declared.reply.Reply.{Reply}
use Rattle.call_registers.proofs.QueueLemmas.{stands_at, StandsAt}
use Rattle.call_registers.proofs.ReplyLemmas.{found_itself as reply_itself, rises_at}
use Rattle.call_registers.proofs.WaitingLemmas.{found_itself, numbered_at}
use Rattle.service_events.specs.Posts.{Aged, is_owed, is_to_fetch, is_unacknowledged, older}
use Rattle.repair_queue.specs.Queue.{answers_out, call_of, fetch_of, fetches_out, goes_out, reply_of, with_call, with_fetch, with_reply}

-- ---- a walk in which one post is the oldest

-- what was seen so far is later
abbrev IsLater : ℕ → Option Aged → Type 0
IsLater since None = Unit {0}
IsLater since (Some post) = since < post.since

takes : (o : Option Aged) (post : Aged) → IsLater post.since o → older o post ≡ Some post
takes None post h = refl
takes (Some first) post h = let is : nat_lt post.since first.since ≡ true = lt-ltb post.since first.since h in rw is refl

later_by : (b : Bool) (since : ℕ) (first post : Aged) → since < first.since → since < post.since → IsLater since (cond b (Some post) (Some first))
later_by true since first post h g = g
later_by false since first post h g = h

later : (since : ℕ) (o : Option Aged) (post : Aged) → IsLater since o → since < post.since → IsLater since (older o post)
later since None post h g = g
later since (Some first) post h g = later_by (nat_lt post.since first.since) since first post h g

module _ {X : Type 0} (p : X → Bool) (post : X → Aged) where
  abbrev step : Option Aged → X → Option Aged
  step o x = cond (p x) (older o (post x)) o

  stays : (first : Aged) (xs : List X) (d : X) → ((j : ℕ) → j < length xs → p (get_or xs j d) ≡ true → first.since ≤ (post (get_or xs j d)).since)
      → fold step (Some first) xs ≡ Some first
  stays first [] d h = refl
  stays first (x ∷ xs) d h = elim (cases_Bool (p x)) [
    | inl is ↦ (let no : nat_lt (post x).since first.since ≡ false = le-ltb (post x).since first.since (h 0 (omega arith) is) in
        rw (is, no) (stays first xs d (λ j lt. h (suc j) (omega arith))))
    | inr other ↦ rw other (stays first xs d (λ j lt. h (suc j) (omega arith)))
  ]

  oldest_at : (xs : List X) (i : ℕ) (d : X) (o : Option Aged) → i < length xs → p (get_or xs i d) ≡ true
      → ((j : ℕ) → j < i → p (get_or xs j d) ≡ true → (post (get_or xs i d)).since < (post (get_or xs j d)).since)
      → ((j : ℕ) → i < j → j < length xs → p (get_or xs j d) ≡ true → (post (get_or xs i d)).since ≤ (post (get_or xs j d)).since)
      → IsLater (post (get_or xs i d)).since o → fold step o xs ≡ Some (post (get_or xs i d))
  oldest_at [] i d o lt passes before behind h = absurd (omega (arith, lt))
  oldest_at (x ∷ xs) zero d o lt passes before behind h =
      rw passes (ap (λ o. fold step o xs) (takes o (post x) h) ∙ stays (post x) xs d (λ j less. behind (suc j) (omega arith) (omega arith)))
  oldest_at (x ∷ xs) (suc i) d o lt passes before behind h = elim (cases_Bool (p x)) [
    | inl is ↦ rw is (oldest_at xs i d (older o (post x)) (omega arith) passes (λ j less. before (suc j) (omega arith)) (λ j more less. behind (suc j) (omega arith) (omega arith))
        (later (post (get_or xs i d)).since o (post x) h (before 0 (omega arith) is)))
    | inr other ↦ rw other (oldest_at xs i d o (omega arith) passes (λ j less. before (suc j) (omega arith)) (λ j more less. behind (suc j) (omega arith) (omega arith)) h)
  ]

  none_passes : (xs : List X) → ((j : ℕ) (d : X) → j < length xs → p (get_or xs j d) ≡ false) → fold step None xs ≡ None
  none_passes [] h = refl
  none_passes (x ∷ xs) h = let here = h 0 x (omega arith) in rw here (none_passes xs (λ j d lt. h (suc j) d (omega arith)))

-- ---- what is found

-- an element that passes stands at a place, and none before it does
record IsFirst {X : Type 0} (q : X → Bool) (xs : List X) (x : X) : Type 0 where
  place : ℕ
  within : place < length xs
  is : get_or xs place x ≡ x
  passes : q x ≡ true
  first : (j : ℕ) → j < place → q (get_or xs j x) ≡ false

first_by : {X : Type 0} (q : X → Bool) (b : Bool) (y x : X) (ys : List X) → q y ≡ b → cond b (Some y) (find q ys) ≡ Some x → (find q ys ≡ Some x → IsFirst q ys x) → IsFirst q (y ∷ ys) x
first_by q true y x ys e found more =
    let same : y ≡ x = cc in
    record { place = 0; within = omega arith; is = same; passes = ap q (sym same) ∙ e; first = λ j lt. absurd (omega arith) }
first_by {X} q false y x ys e found more =
    let rest = more found in
    record { place = suc rest.place; within = (let w = rest.within in omega arith); is = rest.is; passes = rest.passes; first = before rest }
  where
    before : (rest : IsFirst q ys x) (j : ℕ) → j < suc rest.place → q (get_or (y ∷ ys) j x) ≡ false
    before rest zero lt = e
    before rest (suc j) lt = rest.first j (omega arith)

find_first : {X : Type 0} (q : X → Bool) (xs : List X) (x : X) → find q xs ≡ Some x → IsFirst q xs x
find_first q [] x found = cc
find_first q (y ∷ ys) x found = first_by q (q y) y x ys refl found (find_first q ys x)

none_by : {X : Type 0} (q : X → Bool) (b : Bool) (y x : X) (ys : List X) → q y ≡ b → cond b (Some y) (find q ys) ≡ None → Contains (y ∷ ys) x → (find q ys ≡ None → Contains ys x → q x ≡ false) → q x ≡ false
none_by q true y x ys e found there more = cc
none_by q false y x ys e found (zero, lt, is) more = ap q (sym is) ∙ e
none_by q false y x ys e found (suc i, lt, is) more = more found (i, omega arith, is)

find_none : {X : Type 0} (q : X → Bool) (xs : List X) (x : X) → find q xs ≡ None → Contains xs x → q x ≡ false
find_none q [] x found (i, lt, is) = absurd (omega (arith, lt))
find_none q (y ∷ ys) x found there = none_by q (q y) y x ys refl found there (find_none q ys x)

-- ---- what waits, and its keys

-- of one receiver, a key that doesn't come before another is as old or younger
no_older : (a b : AgeKey) → a.code ≡ b.code → is_before a b ≡ false → b.since ≤ a.since
no_older a b e h = grind (arith, nat_tests)

younger : (a b : AgeKey) → a.code ≡ b.code → is_before a b ≡ false → a.number < b.number → b.since < a.since
younger a b e h lt = grind (arith, nat_tests)

not_both : (b : Bool) → b ≡ true → b ≡ false → ⊥
not_both b e f = cc

-- what of a list is outstanding has its key among these; items are found by the numbers of their keys, which rise
module _ {X : Type 0} (p : X → Bool) (key : X → Option AgeKey) (age : X → AgeKey) (post : AgeKey → Aged) (is_of : ℕ → X → Bool) (code : ℕ) (xs : List X) (keys : List AgeKey)
    (aged : (k : AgeKey) → (post k).since ≡ k.since) (keyed : (x : X) (k : AgeKey) → key x ≡ Some k → k ≡ age x) (tested : (x : X) → p x ≡ true → (key x ≡ Some (age x)) × ((age x).code ≡ code))
    (itself : (i : ℕ) (d : X) → i < length xs → find (is_of (age (get_or xs i d)).number) xs ≡ Some (get_or xs i d))
    (rises : (i j : ℕ) (d : X) → i < j → j < length xs → (age (get_or xs i d)).number < (age (get_or xs j d)).number)
    (waiting : AreOldestFirst code (λ n. option_and_then key (find (is_of n) xs)) keys) where
  abbrev q : AgeKey → Bool
  q k = option_map_or p (find (is_of k.number) xs) false

  -- the key of what is outstanding is there, and passes
  key_there : (x : X) → find (is_of (age x).number) xs ≡ Some x → p x ≡ true → Contains keys (age x)
  key_there x found h = waiting.all (age x) (tested x h).1 (ap (option_and_then key) found ∙ (tested x h).0)

  key_passes : (x : X) → find (is_of (age x).number) xs ≡ Some x → p x ≡ true → q (age x) ≡ true
  key_passes x found h = ap (λ o. option_map_or p o false) found ∙ h

  none_out : find q keys ≡ None → (j : ℕ) (d : X) → j < length xs → p (get_or xs j d) ≡ false
  none_out none j d lt =
      let x = get_or xs j d in
      let found = itself j d lt in
      elim (cases_Bool (p x)) [
        | inl is ↦ absurd (not_both (q (age x)) (key_passes x found is) (find_none q keys (age x) none (key_there x found is)))
        | inr other ↦ other
      ]

  -- no key that passes comes before the first one
  not_before : (k other : AgeKey) → IsFirst q keys k → Contains keys other → q other ≡ true → is_before other k ≡ false
  not_before k other first (i, lt, is) passes =
      elim (cases_order i first.place) [
        | inl same ↦ (let e : other ≡ k = sym is ∙ get_or_default keys i other k lt ∙ ap (λ n. get_or keys n k) same ∙ first.is in
            subst (λ x. is_before x k ≡ false) (sym e) (not_itself k))
        | inr (inl less) ↦ absurd (not_both (q other) passes (ap q (sym (sym (get_or_default keys i other k lt) ∙ is)) ∙ first.first i less))
        | inr (inr more) ↦ (let e = waiting.rising first.place i k more lt in
            subst (λ x. is_before x k ≡ false) (sym (get_or_default keys i other k lt) ∙ is) (subst (λ x. is_before (get_or keys i k) x ≡ false) first.is e))
      ]

  module _ (k : AgeKey) (first : IsFirst q keys k) (x : X) (found : find (is_of k.number) xs ≡ Some x) (waits : key x ≡ Some k) where
    is : k ≡ age x
    is = keyed x k waits

    out : p x ≡ true
    out = sym (ap (λ o. option_map_or p o false) found) ∙ first.passes

    same_code : (y : X) → p y ≡ true → (age y).code ≡ (age x).code
    same_code y h = (tested y h).1 ∙ sym (tested x out).1

    behind_it : (y : X) → find (is_of (age y).number) xs ≡ Some y → p y ≡ true → is_before (age y) (age x) ≡ false
    behind_it y here h = subst (λ z. is_before (age y) z ≡ false) is (not_before k (age y) first (key_there y here h) (key_passes y here h))

    stands : StandsAt xs x
    stands = stands_at (is_of k.number) xs x found

    oldest_is_it : Some (post k) ≡ fold (step p (λ y. post (age y))) None xs
    oldest_is_it =
        let at = stands.place in
        let e : get_or xs at x ≡ x = stands.is in
        ap (λ z. Some (post z)) is
        ∙ ap (λ z. Some (post (age z))) (sym e)
        ∙ sym (oldest_at p (λ y. post (age y)) xs at x None stands.within (ap p e ∙ out)
        (λ j less h. (let y = get_or xs j x in
        let within = stands.within in
        let here = itself j x (omega arith) in
        let n = rises j at x less within in
        let number : (age y).number < (age x).number = subst (λ z. (age y).number < (age z).number) e n in
        let lt = younger (age y) (age x) (same_code y h) (behind_it y here h) number in
        let one = aged (age y) in
        let two = aged (age (get_or xs at x)) in
        let three = ap (λ z. (age z).since) e in
        omega arith))
        (λ j more less h. (let y = get_or xs j x in
        let here = itself j x less in
        let le = no_older (age y) (age x) (same_code y h) (behind_it y here h) in
        let one = aged (age y) in
        let two = aged (age (get_or xs at x)) in
        let three = ap (λ z. (age z).since) e in
        omega arith))
        tt)

  first_out : (found : Option AgeKey) → found ≡ find q keys → option_map post found ≡ fold (step p (λ y. post (age y))) None xs
  first_out None e = sym (none_passes p (λ y. post (age y)) xs (none_out (sym e)))
  first_out (Some k) e =
      let first = find_first q keys k (sym e) in
      let at = waiting.only k (first.place, first.within, first.is) in
      option_and_then_some key (find (is_of k.number) xs) k at.1 (λ x found waits. oldest_is_it k first x found waits)

-- ---- calls

first_two : (a b c d : Bool) → (a && b && c && d) ≡ true → (a ≡ true) × (b ≡ true)
first_two true true c d h = (refl, refl)
first_two true false c d h = cc
first_two false b c d h = cc

waits_if : (b : Bool) (k : AgeKey) → b ≡ true → cond b (Some k) None ≡ Some k
waits_if true k h = refl
waits_if false k h = cc

module _ (awaited dest : List ℕ) (registers : List Register) (keys : List AgeKey) (numbered : IsNumbered registers) (waiting : AreWaiting dest registers keys) where
  call_tested : (r : Register) → is_unacknowledged awaited dest r ≡ true → (waiting_key r ≡ Some (age_key r)) × ((age_key r).code ≡ text_key dest)
  call_tested r h =
      let both = first_two (same_text r.dest dest) (nat_lt r.acked r.version) (is_none r.held) (not (list_any (nat_eq r.number) awaited)) h in
      (waits_if (nat_lt r.acked r.version) (age_key r) both.1, ap text_key (text_is r.dest dest (sym both.0)))

  pub first_call_is : (found : Option AgeKey) → found ≡ find (λ (k : AgeKey). goes_out awaited dest registers k.number) keys → option_map call_of found ≡ fold (with_call awaited dest) None registers
  first_call_is =
      first_out (is_unacknowledged awaited dest) waiting_key age_key call_of has_number (text_key dest) registers keys (λ k. refl)
      (λ r k e. sym (cond_some (nat_lt r.acked r.version) (age_key r) k e).1) call_tested (λ i d lt. found_itself registers i d numbered lt)
      (λ i j d less lt. (let a = numbered_at registers i d numbered (omega arith) in let b = numbered_at registers j d numbered lt in omega arith)) waiting

-- ---- replies

module _ (dest : List ℕ) (replies : List Reply) (keys : List AgeKey) (rising : IsRising replies) (due : AreDue dest replies keys) where
  reply_tested : (p : Reply) → is_owed dest p ≡ true → (due_key p ≡ Some (reply_key p)) × ((reply_key p).code ≡ text_key dest)
  reply_tested p h =
      let both = first_two (same_text p.caller dest) p.due (nat_lt 0 p.answer_version) (is_none p.held) h in
      (waits_if p.due (reply_key p) both.1, ap text_key (text_is p.caller dest (sym both.0)))

  pub first_reply_is : (found : Option AgeKey) → found ≡ find (λ (k : AgeKey). answers_out dest replies k.number) keys → option_map reply_of found ≡ fold (with_reply dest) None replies
  first_reply_is =
      first_out (is_owed dest) due_key reply_key reply_of has_entry (text_key dest) replies keys (λ k. refl)
      (λ p k e. sym (cond_some p.due (reply_key p) k e).1) reply_tested (λ i d lt. reply_itself replies i d rising lt) (λ i j d less lt. rises_at i j replies d rising less lt) due

-- ---- fetches

module _ (dest : List ℕ) (registers : List Register) (keys : List AgeKey) (numbered : IsNumbered registers) (fetched : AreFetched dest registers keys) where
  fetch_tested : (r : Register) → is_to_fetch dest r ≡ true → (fetch_key r ≡ Some (noted_key r)) × ((noted_key r).code ≡ text_key dest)
  fetch_tested r h =
      let both = and_parts (owes_fetch r) (same_text r.dest dest) h in
      (waits_if (owes_fetch r) (noted_key r) both.0, ap text_key (text_is r.dest dest (sym both.1)))

  pub first_fetch_is : (found : Option AgeKey) → found ≡ find (λ (k : AgeKey). fetches_out dest registers k.number) keys → option_map fetch_of found ≡ fold (with_fetch dest) None registers
  first_fetch_is =
      first_out (is_to_fetch dest) fetch_key noted_key fetch_of has_number (text_key dest) registers keys (λ k. refl)
      (λ r k e. sym (cond_some (owes_fetch r) (noted_key r) k e).1) fetch_tested (λ i d lt. found_itself registers i d numbered lt)
      (λ i j d less lt. (let a = numbered_at registers i d numbered (omega arith) in let b = numbered_at registers j d numbered lt in omega arith)) fetched
