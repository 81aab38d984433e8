-- A post that isn't left isn't outstanding any more.
use Rattle.std.proofs.Common.{◌≡◌, ℕ, ◌+◌, ◌<◌, ◌⊎◌, ◌&&◌, Bool, true, false, cond, not, List, [], ◌∷◌, ◌++◌, Option, Some, None, IfSome, Result, Ok, Err, Contains, filter, find, fold, is_none, is_some, length, map, max, nat_eq, nat_lt, option_map, if◌then◌else◌, inl, inr, refl, sym, ap, ◌∙◌, subst, arith, eq-eqb, eqb-true, ne_eqb, length-append}
use Rattle.std.specs.List.{list_any}
use Rattle.std.proofs.lemmas.Bool.{cases_Bool, cond-true, cond-false, cond_both, and_parts, le-ltb}
use Rattle.std.proofs.Math.Nat.{le-max_right}
use Rattle.std.proofs.lemmas.List.{length-map}
use Rattle.std.proofs.lemmas.List.Elements.{Contains-append_cases, Contains-append_right}
use Rattle.lang_base.specs.Texts.{same_text}
use Rattle.repair_messages.specs.declared.messages.Ack.{Ack}
use Rattle.repair_messages.specs.declared.messages.AnswerMessage.{AnswerMessage}
use Rattle.repair_messages.specs.declared.messages.Confirm.{Confirm}
use Rattle.repair_messages.specs.declared.messages.Fetch.{Fetch as FetchMessage}
use Rattle.repair_messages.specs.declared.messages.SetMessage.{SetMessage}
use Rattle.repair_messages.specs.declared.messages.TokenMessage.{TokenMessage}
use Rattle.repair_messages.specs.declared.posts.Post.{Post}
use Rattle.repair_messages.specs.declared.posts.Post.TheVariants.{Set, Token, Fetch}
use Rattle.repair_messages.specs.declared.posts.PostName.{PostName}
use Rattle.repair_messages.specs.declared.posts.PostName.TheVariants.{Call, Reply as OfReply, Fetch as OfFetch}
use Rattle.journal_rows.specs.Words.{noted_at}
use Rattle.journal_rows.specs.declared.caller.NotedRow.{NotedRow}
use Rattle.call_registers.specs.Changes.{change}
use Rattle.call_registers.specs.Registers.{at_number, has_number, is_newer, owes_fetch, register, with_ack, with_answer, with_hold, IsNumbered}
use Rattle.call_registers.specs.Replies.{at_entry, has_entry, reply, with_confirm, with_hold as with_reply_hold, IsBelowAll, IsRising}
use Rattle.call_registers.specs.declared.register.Answer.{Answer}
use Rattle.call_registers.specs.declared.register.Hold.{Hold}
use Rattle.call_registers.specs.declared.register.Register.{Register}
use Rattle.call_registers.specs.declared.reply.Reply.{Reply}
use Rattle.call_registers.proofs.OverlayLemmas.{found_number}
use Rattle.call_registers.proofs.WaitingLemmas.{found_itself}
use Rattle.service_events.specs.Fits.{Fits}
use Rattle.service_events.specs.Calls.{noted}
use Rattle.service_events.specs.Flying.{awaited}
use Rattle.service_events.specs.Messages.{fetched, fetched_row, had, hold_of, is_ack_of, is_confirm_of, is_given_to, is_now, held_back, held_where, posted, posted_event, replies_to}
use Rattle.service_events.specs.Posts.{Aged, aged_call, aged_fetch, aged_reply, fetch_message, fetch_post, is_owed, is_to_fetch, is_unacknowledged, next_post, older, oldest, outstanding, set_message, token_message, token_post, write_post}
use Rattle.service_events.specs.State.{Kept, After, after, me}
use Rattle.service_events.specs.declared.answers.PostReply.{PostReply}
use Rattle.service_events.specs.declared.answers.PostReply.TheVariants.{Acked as WasAcked, Confirmed as WasConfirmedBack, Given, Refused, Lost}
use Rattle.service_events.specs.declared.answers.Posted.{Posted}
use Rattle.service_events.specs.declared.answers.Posted.TheVariants.{Saw, Knew, Held, Left}
use Rattle.service_events.specs.declared.refusals.PostRefused.{PostRefused}
use Rattle.service_events.specs.declared.refusals.PostRefused.TheVariants.{Foreign}
use Rattle.service_events.proofs.SearchLemmas.{text_is, contains_here, contains_cases, splits}
use Rattle.world_events.specs.declared.happened.What.TheVariants.{Posted as WasPosted}
use Rattle.world_events.specs.Ends.{post_receiver}
use Rattle.world_events.specs.Events.{sender}
use Rattle.world_settle.specs.Settles.{is_done, outstanding_at}

-- ---- tests

not_last : (a : Bool) → (a && false) ≡ false
not_last true = refl
not_last false = refl

not_third : (a c : Bool) → (a && false && c) ≡ false
not_third true c = refl
not_third false c = refl

not_four : (a b c d : Bool) → b ≡ false → (a && b && c && d) ≡ false
not_four true b c d e = ap (λ x. x && c && d) e
not_four false b c d e = refl

not_owed : (a b c : Bool) → b ≡ false → ((a && b) && c) ≡ false
not_owed true b c e = ap (λ x. x && c) e
not_owed false b c e = refl

not_due : (a w b c d : Bool) → b ≡ true → (a && (w && not b) && c && d) ≡ false
not_due true true b c d e = ap (λ x. not x && c && d) e
not_due true false b c d e = refl
not_due false w b c d e = refl

-- ---- what is in a list

from_map : {X Y : Type 0} (f : X → Y) (xs : List X) (y : Y) → Contains (map f xs) y → (x : X) × Contains xs x × (f x ≡ y)
from_map f [] y h = absurd (omega (arith, h.1))
from_map f (x ∷ xs) y h = elim (contains_cases (f x) y (map f xs) h) [
  | inl is ↦ (x, contains_here x xs, is)
  | inr later ↦ (let r = from_map f xs y later in (r.0, Contains-append_right (x ∷ []) xs r.0 r.1, r.2))
]

-- of these elements the first that is sought passes, and changed so it doesn't: one fewer passes
one_fewer : {X : Type 0} (sought passes : X → Bool) (f : X → X) (xs : List X) (x : X) → find sought xs ≡ Some x → passes x ≡ true → passes (f x) ≡ false
    → length (filter passes (change sought f xs)) < length (filter passes xs)
one_fewer sought passes f [] x found now later = cc
one_fewer sought passes f (y ∷ ys) x found now later = elim (cases_Bool (sought y)) [
  | inl is ↦ (let same : y ≡ x = (let some : Some y ≡ Some x = rw is at found in cc) in
      let here : passes y ≡ true = ap passes same ∙ now in
      let gone : passes (f y) ≡ false = ap (λ z. passes (f z)) same ∙ later in
      rw is (rw here (rw gone (omega arith))))
  | inr other ↦ (let behind : find sought ys ≡ Some x = rw other at found in
      let rest = one_fewer sought passes f ys x behind now later in
      rw other (kept (passes y) rest))
]
  where
    kept : (b : Bool) → length (filter passes (change sought f ys)) < length (filter passes ys)
        → length (cond b (y ∷ filter passes (change sought f ys)) (filter passes (change sought f ys))) < length (cond b (y ∷ filter passes ys) (filter passes ys))
    kept true rest = omega (arith, rest)
    kept false rest = rest

-- where a change leaves whether an element passes, as many pass
same_passing : {X : Type 0} (sought passes : X → Bool) (f : X → X) (xs : List X) → ((x : X) → passes (f x) ≡ passes x)
    → length (filter passes (change sought f xs)) ≡ length (filter passes xs)
same_passing sought passes f [] leaves = refl
same_passing sought passes f (y ∷ ys) leaves = elim (cases_Bool (sought y)) [
  | inl is ↦ rw is (rw (leaves y) (changed (passes y)))
  | inr other ↦ rw other (kept (passes y) (same_passing sought passes f ys leaves))
]
  where
    changed : (b : Bool) → length (cond b (f y ∷ filter passes ys) (filter passes ys)) ≡ length (cond b (y ∷ filter passes ys) (filter passes ys))
    changed true = refl
    changed false = refl

    kept : (b : Bool) → length (filter passes (change sought f ys)) ≡ length (filter passes ys)
        → length (cond b (y ∷ filter passes (change sought f ys)) (filter passes (change sought f ys))) ≡ length (cond b (y ∷ filter passes ys) (filter passes ys))
    kept true rest = omega (arith, rest)
    kept false rest = rest

-- an element that a filter keeps is there and passes
from_filter : {X : Type 0} (p : X → Bool) (xs : List X) (x : X) → Contains (filter p xs) x → Contains xs x × (p x ≡ true)
from_filter p [] x h = absurd (omega (arith, h.1))
from_filter p (y ∷ ys) x h = elim (cases_Bool (p y)) [
  | inl is ↦ (let here : Contains (y ∷ filter p ys) x = rw is at h in first y ys (contains_cases y x (filter p ys) here) is (from_filter p ys x))
  | inr other ↦ (let later : Contains (filter p ys) x = rw other at h in
      let r = from_filter p ys x later in (Contains-append_right (y ∷ []) ys x r.0, r.1))
]
  where
    first : (y : _) (ys : List _) → (y ≡ x) ⊎ Contains (filter p ys) x → p y ≡ true → (Contains (filter p ys) x → Contains ys x × (p x ≡ true)) → Contains (y ∷ ys) x × (p x ≡ true)
    first y ys (inl is) passes rest = (subst (λ z. Contains (y ∷ ys) z) is (contains_here y ys), ap p (sym is) ∙ passes)
    first y ys (inr later) passes rest = (let r = rest later in (Contains-append_right (y ∷ []) ys x r.0, r.1))

-- the oldest of some posts is one of them
fold_there : (p : Aged) (ps : List Aged) (q : Aged) → fold older (Some p) ps ≡ Some q → Contains (p ∷ ps) q
fold_there p [] q e = (let same : p ≡ q = cc in (0, omega arith, same))
fold_there p (x ∷ xs) q e = by_age (nat_lt x.since p.since) (λ f. fold_there x xs q f) (λ f. fold_there p xs q f) e
  where
    either : (p ≡ q) ⊎ Contains xs q → Contains (p ∷ (x ∷ xs)) q
    either (inl is) = (0, omega arith, is)
    either (inr later) = Contains-append_right (p ∷ (x ∷ [])) xs q later

    by_age : (b : Bool) → (fold older (Some x) xs ≡ Some q → Contains (x ∷ xs) q) → (fold older (Some p) xs ≡ Some q → Contains (p ∷ xs) q)
        → fold older (if b then Some x else Some p) xs ≡ Some q → Contains (p ∷ (x ∷ xs)) q
    by_age true one other f = Contains-append_right (p ∷ []) (x ∷ xs) q (one f)
    by_age false one other f = either (contains_cases p q xs (other f))

oldest_there : (posts : List Aged) (q : Aged) → oldest posts ≡ Some q → Contains posts q
oldest_there [] q e = cc
oldest_there (p ∷ ps) q e = fold_there p ps q e

named_oldest : (o : Option Aged) (name : PostName) → option_map (λ (p : Aged). p.name) o ≡ Some name → (q : Aged) × (o ≡ Some q) × (q.name ≡ name)
named_oldest None name e = cc
named_oldest (Some q) name e = (let same : q.name ≡ name = cc in (q, refl, same))

-- ---- what is outstanding

register_itself : (rs : List Register) (r : Register) → IsNumbered rs → Contains rs r → register r.number rs ≡ Some r
register_itself rs r h at =
    let R : Register → Type 0 = λ x. register x.number rs ≡ Some x in
    subst R at.2 (found_itself rs at.0 r h at.1)

-- no two replies are of one entry
below_all : (id : ℕ) (ps : List Reply) (p : Reply) → IsBelowAll id ps → Contains ps p → id < p.id
below_all id [] p h at = absurd (omega (arith, at.1))
below_all id (x ∷ xs) p h at = elim (contains_cases x p xs at) [
  | inl is ↦ subst (λ (y : Reply). id < y.id) is h.0
  | inr later ↦ below_all id xs p h.1 later
]

reply_itself : (ps : List Reply) (p : Reply) → IsRising ps → Contains ps p → reply p.id ps ≡ Some p
reply_itself [] p h at = absurd (omega (arith, at.1))
reply_itself (x ∷ xs) p h at = elim (contains_cases x p xs at) [
  | inl is ↦ cond-true (nat_eq x.id p.id) (Some x) (reply p.id xs) (eq-eqb x.id p.id (ap (λ (y : Reply). y.id) is)) ∙ ap Some is
  | inr later ↦ (let below = below_all x.id xs p h.0 later in
      cond-false (nat_eq x.id p.id) (Some x) (reply p.id xs) (ne_eqb x.id p.id (omega (arith, below))) ∙ reply_itself xs p h.1 later)
]

-- a call that waits for this service to acknowledge it
pub record CallWaits (s : Kept) (to : List ℕ) (number : ℕ) : Type 0 where
  pub it : Register
  pub found : register number s.registers ≡ Some it
  pub waits : is_unacknowledged (map awaited s.flights) to it ≡ true

-- a reply that waits for this service to confirm it
pub record ReplyWaits (s : Kept) (to : List ℕ) (id : ℕ) : Type 0 where
  pub it : Reply
  pub found : reply id s.replies ≡ Some it
  pub waits : is_owed to it ≡ true

-- a call of which this service gives an answer that is to be fetched
pub record FetchWaits (s : Kept) (to : List ℕ) (number : ℕ) : Type 0 where
  pub it : Register
  pub found : register number s.registers ≡ Some it
  pub waits : is_to_fetch to it ≡ true

abbrev pub Waits : Kept → List ℕ → PostName → Type 0
Waits s to (Call number) = CallWaits s to number
Waits s to (OfReply id) = ReplyWaits s to id
Waits s to (OfFetch number) = FetchWaits s to number

count_is : (registers : List Register) (replies : List Reply) (awaits to : List ℕ)
    → length (outstanding registers replies awaits to)
    ≡ length (filter (is_unacknowledged awaits to) registers) + length (filter (is_owed to) replies) + length (filter (is_to_fetch to) registers)
count_is registers replies awaits to =
    let calls = filter (is_unacknowledged awaits to) registers in
    let owed = filter (is_owed to) replies in
    let fetches = filter (is_to_fetch to) registers in
    let all : length ((map aged_call calls ++ map aged_reply owed) ++ map aged_fetch fetches) ≡ length (map aged_call calls ++ map aged_reply owed) + length (map aged_fetch fetches) =
    length-append (map aged_call calls ++ map aged_reply owed) (map aged_fetch fetches) in
    let sum : length (map aged_call calls ++ map aged_reply owed) ≡ length (map aged_call calls) + length (map aged_reply owed) = length-append (map aged_call calls) (map aged_reply owed) in
    let one : length (map aged_call calls) ≡ length calls = length-map calls aged_call in
    let two : length (map aged_reply owed) ≡ length owed = length-map owed aged_reply in
    let three : length (map aged_fetch fetches) ≡ length fetches = length-map fetches aged_fetch in
    omega (arith, all, sum, one, two, three)

module _ (s : Kept) (fits : Fits s) (to : List ℕ) where
  abbrev awaits : List ℕ
  awaits = map awaited s.flights

  -- the post that goes next waits
  waits_there : (q : Aged) → Contains (outstanding s.registers s.replies awaits to) q → Waits s to q.name
  waits_there q at =
      elim (Contains-append_cases (map aged_call (filter (is_unacknowledged awaits to) s.registers) ++ map aged_reply (filter (is_owed to) s.replies)) (map aged_fetch (filter (is_to_fetch to) s.registers)) q at) [
        | inl first ↦ by_kind (Contains-append_cases (map aged_call (filter (is_unacknowledged awaits to) s.registers)) (map aged_reply (filter (is_owed to) s.replies)) q first)
        | inr last ↦ to_fetch last
      ]
    where
      to_fetch : Contains (map aged_fetch (filter (is_to_fetch to) s.registers)) q → Waits s to q.name
      to_fetch at =
          let r = from_map aged_fetch (filter (is_to_fetch to) s.registers) q at in
          let of = from_filter (is_to_fetch to) s.registers r.0 r.1 in
          let W : Aged → Type 0 = λ x. Waits s to x.name in
          let it : FetchWaits s to (r.0).number = record { it = r.0; found = register_itself s.registers r.0 fits.sent.numbered of.0; waits = of.1 } in
          subst W r.2 it

      by_kind : Contains (map aged_call (filter (is_unacknowledged awaits to) s.registers)) q ⊎ Contains (map aged_reply (filter (is_owed to) s.replies)) q → Waits s to q.name
      by_kind (inl at) =
          let r = from_map aged_call (filter (is_unacknowledged awaits to) s.registers) q at in
          let of = from_filter (is_unacknowledged awaits to) s.registers r.0 r.1 in
          let W : Aged → Type 0 = λ x. Waits s to x.name in
          let it : CallWaits s to (r.0).number = record { it = r.0; found = register_itself s.registers r.0 fits.sent.numbered of.0; waits = of.1 } in
          subst W r.2 it
      by_kind (inr at) =
          let p = from_map aged_reply (filter (is_owed to) s.replies) q at in
          let of = from_filter (is_owed to) s.replies p.0 p.1 in
          let W : Aged → Type 0 = λ x. Waits s to x.name in
          let it : ReplyWaits s to (p.0).id = record { it = p.0; found = reply_itself s.replies p.0 fits.replies.rising of.0; waits = of.1 } in
          subst W p.2 it

  pub next_waits : (name : PostName) → next_post to s ≡ Some name → Waits s to name
  next_waits name e =
      let q = named_oldest (oldest (outstanding s.registers s.replies awaits to)) name e in
      subst (Waits s to) q.2 (waits_there q.0 (oldest_there (outstanding s.registers s.replies awaits to) q.0 q.1))

  -- ---- one fewer

  -- a call that waits, changed so that it doesn't
  call_fewer : (number : ℕ) (w : CallWaits s to number) (f : Register → Register) → is_unacknowledged awaits to (f w.it) ≡ false
      → ((r : Register) → is_to_fetch to (f r) ≡ is_to_fetch to r)
      → length (outstanding (at_number number f s.registers) s.replies awaits to) < outstanding_at to s
  call_fewer number w f gone leaves =
      let same = same_passing (has_number number) (is_to_fetch to) f s.registers leaves in
      let less = one_fewer (has_number number) (is_unacknowledged awaits to) f s.registers w.it w.found w.waits gone in
      let now = count_is s.registers s.replies awaits to in
      let later = count_is (at_number number f s.registers) s.replies awaits to in
      omega (arith, less, same, now, later)

  -- a call that owes a fetch, changed so that it doesn't
  fetch_fewer : (number : ℕ) (w : FetchWaits s to number) (f : Register → Register) → is_to_fetch to (f w.it) ≡ false
      → ((r : Register) → is_unacknowledged awaits to (f r) ≡ is_unacknowledged awaits to r)
      → length (outstanding (at_number number f s.registers) s.replies awaits to) < outstanding_at to s
  fetch_fewer number w f gone leaves =
      let less = one_fewer (has_number number) (is_to_fetch to) f s.registers w.it w.found w.waits gone in
      let same = same_passing (has_number number) (is_unacknowledged awaits to) f s.registers leaves in
      let now = count_is s.registers s.replies awaits to in
      let later = count_is (at_number number f s.registers) s.replies awaits to in
      omega (arith, less, same, now, later)

  -- and a reply
  reply_fewer : (id : ℕ) (w : ReplyWaits s to id) (f : Reply → Reply) → is_owed to (f w.it) ≡ false
      → length (outstanding s.registers (at_entry id f s.replies) awaits to) < outstanding_at to s
  reply_fewer id w f gone =
      let less = one_fewer (has_entry id) (is_owed to) f s.replies w.it w.found w.waits gone in
      let now = count_is s.registers s.replies awaits to in
      let later = count_is s.registers (at_entry id f s.replies) awaits to in
      omega (arith, less, now, later)

  -- ---- what no longer waits

  acked_gone : (r : Register) (version : ℕ) → version ≡ r.version → is_unacknowledged awaits to (with_ack version r) ≡ false
  acked_gone r version same =
      let most : nat_lt (max r.acked version) r.version ≡ false = (let b = le-max_right r.acked version in le-ltb (max r.acked version) r.version (omega (arith, b, same))) in
      not_four (same_text r.dest to) (nat_lt (max r.acked version) r.version) (is_none r.held) (not (list_any (nat_eq r.number) awaits)) most

  held_gone : (r : Register) (hold : Hold) → is_unacknowledged awaits to (with_hold hold r) ≡ false
  held_gone r hold = not_third (same_text r.dest to && nat_lt r.acked r.version) (not (list_any (nat_eq r.number) awaits))

  confirmed_gone : (p : Reply) (version since : ℕ) → version ≡ p.answer_version → is_owed to (with_confirm version since p) ≡ false
  confirmed_gone p version since same =
      let is : nat_eq version p.answer_version ≡ true = eq-eqb version p.answer_version same in
      not_due (same_text p.caller to) p.wanted (nat_eq version p.answer_version) (nat_lt 0 p.answer_version) (is_none p.held) is

  fetched_gone : (r : Register) (a : Answer) → a.answer_version ≡ r.noted → is_newer r.answer a.answer_version ≡ true → is_to_fetch to (with_answer a r) ≡ false
  fetched_gone r a same newer =
      let held : nat_lt a.answer_version r.noted ≡ false = le-ltb a.answer_version r.noted (omega (arith, same)) in
      rw newer (not_owed (is_some r.desired) (nat_lt a.answer_version r.noted) (same_text r.dest to) held)

  -- an answer that is held leaves which calls wait
  answer_leaves : (a : Answer) (r : Register) → is_unacknowledged awaits to (with_answer a r) ≡ is_unacknowledged awaits to r
  answer_leaves a r =
      cond_both (is_newer r.answer a.answer_version) (record r { answer = Some a }) r (λ x. is_unacknowledged awaits to x ≡ is_unacknowledged awaits to r) (λ _. refl) (λ _. refl)

  reply_held_gone : (p : Reply) (hold : Hold) → is_owed to (with_reply_hold hold p) ≡ false
  reply_held_gone p hold = not_last (same_text p.caller to && p.due && nat_lt 0 p.answer_version)

  -- ---- what comes back of a post

  -- of a call
  module _ (number : ℕ) (w : CallWaits s to number) where
    abbrev set : SetMessage
    set = set_message s w.it

    abbrev Fewer : After (Result Posted PostRefused) → Type 0
    Fewer a = is_done (WasPosted a.answer) ≡ true → outstanding_at to a.service < outstanding_at to s

    at_it : (n : ℕ) → n ≡ (w.it).number → n ≡ number
    at_it n e = e ∙ found_number number s.registers w.it w.found

    call_held : (hold : Hold) → outstanding_at to (held_back s (Set set) hold) < outstanding_at to s
    call_held hold =
        let L : ℕ → Type 0 = λ n. length (outstanding (at_number n (with_hold hold) s.registers) s.replies awaits to) < outstanding_at to s in
        subst L (sym (at_it (w.it).number refl)) (call_fewer number w (with_hold hold) (held_gone w.it hold) (λ r. refl))

    call_acked : (ack : Ack) → is_ack_of set ack ≡ true → outstanding_at to (posted s (Set set) (WasAcked ack)).service < outstanding_at to s
    call_acked ack h =
        let first = and_parts (same_text ack.caller set.caller && same_text ack.dest set.dest && nat_eq ack.number set.number) (nat_eq ack.version set.version) h in
        let second = and_parts (same_text ack.caller set.caller && same_text ack.dest set.dest) (nat_eq ack.number set.number) first.0 in
        let n : ack.number ≡ number = at_it ack.number (eqb-true ack.number set.number second.1) in
        let v : ack.version ≡ (w.it).version = eqb-true ack.version set.version first.1 in
        let L : ℕ → Type 0 = λ k. length (outstanding (at_number k (with_ack ack.version) s.registers) s.replies awaits to) < outstanding_at to s in
        subst L (sym n) (call_fewer number w (with_ack ack.version) (acked_gone w.it ack.version v) (λ r. refl))

    call_held_where : (o : Option Hold) → Fewer (held_where s (Set set) o)
    call_held_where None = λ done. cc
    call_held_where (Some hold) = cond_both (is_now s (Set set)) (after (held_back s (Set set) hold) (Ok Held)) (after s (Ok Left)) Fewer (λ _ done. call_held hold) (λ _ done. cc)

    call_replied : (reply : PostReply) → replies_to (Set set) reply ≡ true → Fewer (posted s (Set set) reply)
    call_replied (WasAcked ack) h done = call_acked ack h
    call_replied (WasConfirmedBack c) h done = cc
    call_replied (Given a) h done = cc
    call_replied (Refused word n) h done = call_held_where (hold_of word n) done
    call_replied (Lost note) h done = cc

    pub call_posted : (reply : PostReply) → Fewer (posted_event s (Set set) reply)
    call_posted reply =
        cond_both (had s (Set set) && replies_to (Set set) reply) (posted s (Set set) reply) (after s (Err Foreign)) Fewer
        (λ both. (let parts = and_parts (had s (Set set)) (replies_to (Set set) reply) both in call_replied reply parts.1)) (λ _ done. cc)

  -- of a reply
  module _ (id : ℕ) (w : ReplyWaits s to id) (a : TokenMessage) (same : a.id ≡ id) (version : a.answer_version ≡ (w.it).answer_version) where
    abbrev ReplyFewer : After (Result Posted PostRefused) → Type 0
    ReplyFewer x = is_done (WasPosted x.answer) ≡ true → outstanding_at to x.service < outstanding_at to s

    reply_held : (hold : Hold) → outstanding_at to (held_back s (Token a) hold) < outstanding_at to s
    reply_held hold =
        let L : ℕ → Type 0 = λ n. length (outstanding s.registers (at_entry n (with_reply_hold hold) s.replies) awaits to) < outstanding_at to s in
        subst L (sym same) (reply_fewer id w (with_reply_hold hold) (reply_held_gone w.it hold))

    reply_confirmed : (c : Confirm) → is_confirm_of a c ≡ true → outstanding_at to (posted s (Token a) (WasConfirmedBack c)).service < outstanding_at to s
    reply_confirmed c h =
        let parts = and_parts (same_text c.caller a.caller && same_text c.callee a.callee && nat_eq c.number a.number) (nat_eq c.answer_version a.answer_version) h in
        let v : c.answer_version ≡ (w.it).answer_version = eqb-true c.answer_version a.answer_version parts.1 ∙ version in
        let L : ℕ → Type 0 = λ n. length (outstanding s.registers (at_entry n (with_confirm c.answer_version (length s.journal)) s.replies) awaits to) < outstanding_at to s in
        subst L (sym same) (reply_fewer id w (with_confirm c.answer_version (length s.journal)) (confirmed_gone w.it c.answer_version (length s.journal) v))

    reply_held_where : (o : Option Hold) → ReplyFewer (held_where s (Token a) o)
    reply_held_where None = λ done. cc
    reply_held_where (Some hold) =
        cond_both (is_now s (Token a)) (after (held_back s (Token a) hold) (Ok Held)) (after s (Ok Left)) ReplyFewer (λ _ done. reply_held hold) (λ _ done. cc)

    reply_replied : (reply : PostReply) → replies_to (Token a) reply ≡ true → ReplyFewer (posted s (Token a) reply)
    reply_replied (WasAcked ack) h done = cc
    reply_replied (WasConfirmedBack c) h done = reply_confirmed c h
    reply_replied (Given x) h done = cc
    reply_replied (Refused word n) h done = reply_held_where (hold_of word n) done
    reply_replied (Lost note) h done = cc

    pub reply_posted : (reply : PostReply) → ReplyFewer (posted_event s (Token a) reply)
    reply_posted reply =
        cond_both (had s (Token a) && replies_to (Token a) reply) (posted s (Token a) reply) (after s (Err Foreign)) ReplyFewer
        (λ both. (let parts = and_parts (had s (Token a)) (replies_to (Token a) reply) both in reply_replied reply parts.1)) (λ _ done. cc)

  -- of a fetch
  module _ (number : ℕ) (w : FetchWaits s to number) where
    abbrev fetch : FetchMessage
    fetch = fetch_message s w.it

    abbrev FetchFewer : After (Result Posted PostRefused) → Type 0
    FetchFewer x = is_done (WasPosted x.answer) ≡ true → outstanding_at to x.service < outstanding_at to s

    fetched_fewer : (a : AnswerMessage) → a.number ≡ number → a.answer_version ≡ (w.it).noted → (n : Option NotedRow)
        → FetchFewer (fetched s a (register a.number s.registers) n)
    fetched_fewer a same version n = of_register (register a.number s.registers) (ap (λ k. register k s.registers) same ∙ w.found) n
      where
        of_register : (o : Option Register) → o ≡ Some w.it → (n : Option NotedRow) → FetchFewer (fetched s a o n)
        of_register None is n = cc
        of_register (Some r) is None = λ done. cc
        of_register (Some r) is (Some n) =
            let it : r ≡ w.it = cc in
            let seen : Answer = record { answer_version = a.answer_version; version = a.version; response = a.response } in
            let L : ℕ → Type 0 = λ k. length (outstanding (at_number k (with_answer seen) s.registers) s.replies awaits to) < outstanding_at to s in
            cond_both (is_newer r.answer a.answer_version) (after (noted (fetched_row a n ∷ []) s) (Ok Saw)) (after s (Ok Knew)) FetchFewer
            (λ newer done.
            (let newer_than : is_newer (w.it).answer a.answer_version ≡ true = ap (λ (x : Register). is_newer x.answer a.answer_version) (sym it) ∙ newer in
            subst L (sym same) (fetch_fewer number w (with_answer seen) (fetched_gone w.it seen version newer_than) (answer_leaves seen))))
            (λ _ done. cc)

    fetch_given : (a : AnswerMessage) → is_given_to fetch a ≡ true → FetchFewer (posted s (Fetch fetch) (Given a))
    fetch_given a h =
        let first = and_parts (same_text a.callee fetch.callee && nat_eq a.number fetch.number) (nat_eq a.answer_version fetch.answer_version) h in
        let second = and_parts (same_text a.callee fetch.callee) (nat_eq a.number fetch.number) first.0 in
        let n : a.number ≡ number = eqb-true a.number fetch.number second.1 ∙ found_number number s.registers w.it w.found in
        fetched_fewer a n (eqb-true a.answer_version fetch.answer_version first.1) (noted_at a.number a.answer_version s.journal)

    fetch_held_where : (o : Option Hold) → FetchFewer (held_where s (Fetch fetch) o)
    fetch_held_where None = λ done. cc
    fetch_held_where (Some hold) = λ done. cc

    fetch_replied : (reply : PostReply) → replies_to (Fetch fetch) reply ≡ true → FetchFewer (posted s (Fetch fetch) reply)
    fetch_replied (WasAcked ack) h done = cc
    fetch_replied (WasConfirmedBack c) h done = cc
    fetch_replied (Given a) h done = fetch_given a h done
    fetch_replied (Refused word n) h done = fetch_held_where (hold_of word n) done
    fetch_replied (Lost note) h done = cc

    pub fetch_posted : (reply : PostReply) → FetchFewer (posted_event s (Fetch fetch) reply)
    fetch_posted reply =
        cond_both (had s (Fetch fetch) && replies_to (Fetch fetch) reply) (posted s (Fetch fetch) reply) (after s (Err Foreign)) FetchFewer
        (λ both. (let parts = and_parts (had s (Fetch fetch)) (replies_to (Fetch fetch) reply) both in fetch_replied reply parts.1)) (λ _ done. cc)

  -- ---- the next post

  abbrev Fewer_after : Post → PostReply → Type 0
  Fewer_after post reply = is_done (WasPosted (posted_event s post reply).answer) ≡ true → outstanding_at to (posted_event s post reply).service < outstanding_at to s

  -- what the next post is: from this service, to that one, and its sender is done with it only where fewer are outstanding
  pub record Sends (post : Post) : Type 0 where
    pub from : sender post ≡ me s
    pub goes : post_receiver post ≡ to
    pub fewer : (reply : PostReply) → Fewer_after post reply

  call_sends : (number : ℕ) (w : CallWaits s to number) → Sends (Set (set_message s w.it))
  call_sends number w =
      let parts = and_parts (same_text (w.it).dest to && nat_lt (w.it).acked (w.it).version && is_none (w.it).held) (not (list_any (nat_eq (w.it).number) awaits)) w.waits in
      let more = and_parts (same_text (w.it).dest to && nat_lt (w.it).acked (w.it).version) (is_none (w.it).held) parts.0 in
      let most = and_parts (same_text (w.it).dest to) (nat_lt (w.it).acked (w.it).version) more.0 in
      record { from = refl; goes = text_is (w.it).dest to most.0; fewer = call_posted number w }

  token_sends : (id : ℕ) (w : ReplyWaits s to id) → (w.it).id ≡ id → Sends (Token (token_message s w.it))
  token_sends id w same =
      let parts = and_parts (same_text (w.it).caller to && (w.it).due && nat_lt 0 (w.it).answer_version) (is_none (w.it).held) w.waits in
      let more = and_parts (same_text (w.it).caller to && (w.it).due) (nat_lt 0 (w.it).answer_version) parts.0 in
      let most = and_parts (same_text (w.it).caller to) (w.it).due more.0 in
      record { from = refl; goes = text_is (w.it).caller to most.0; fewer = reply_posted id w (token_message s w.it) same refl }

  fetch_sends : (number : ℕ) (w : FetchWaits s to number) → Sends (Fetch (fetch_message s w.it))
  fetch_sends number w =
      let parts = and_parts (owes_fetch w.it) (same_text (w.it).dest to) w.waits in
      record { from = refl; goes = text_is (w.it).dest to parts.1; fewer = fetch_posted number w }

  sends_by : (name : PostName) → Waits s to name → IfSome (write_post s name) Sends
  sends_by (Call number) w = subst (λ o. IfSome (option_map (λ r. Set (set_message s r)) o) Sends) (sym w.found) (call_sends number w)
  sends_by (OfReply id) w =
      let mine : (w.it).id ≡ id = eqb-true (w.it).id id (splits (has_entry id) s.replies w.it w.found).passes in
      subst (λ o. IfSome (token_post s o) Sends) (sym w.found) (by_version (nat_lt 0 (w.it).answer_version) (token_sends id w mine))
    where
      by_version : (b : Bool) → Sends (Token (token_message s w.it)) → IfSome (cond b (Some (Token (token_message s w.it))) None) Sends
      by_version true sends = sends
      by_version false sends = tt
  sends_by (OfFetch number) w =
      subst (λ o. IfSome (fetch_post s o) Sends) (sym w.found) (by_version (nat_lt 0 (w.it).noted) (fetch_sends number w))
    where
      by_version : (b : Bool) → Sends (Fetch (fetch_message s w.it)) → IfSome (cond b (Some (Fetch (fetch_message s w.it))) None) Sends
      by_version true sends = sends
      by_version false sends = tt

  pub next_sends : (name : PostName) → next_post to s ≡ Some name → IfSome (write_post s name) Sends
  next_sends name e = sends_by name (next_waits name e)
