-- The post that goes next has a message, which goes to the service that it is for.
use Rattle.std.proofs.Common.{◌≡◌, ℕ, ◌<◌, ◌≤◌, ◌+◌, ◌⊎◌, ◌&&◌, Bool, true, List, [], ◌∷◌, ◌++◌, Option, Some, None, IfSome, IsSomeAnd, Contains, filter, is_none, is_some, map, not, nat_eq, nat_lt, option_map, inl, inr, sym, ap, ◌∙◌, subst, arith, eq-eqb, ne_eqb, lt-ltb, ltb-true}
use Rattle.std.specs.List.{list_any}
use Rattle.std.proofs.lemmas.Bool.{cases_Bool, cond-true, cond-false, and_parts}
use Rattle.std.proofs.lemmas.List.Elements.{Contains-append_cases, Contains-append_right}
use Rattle.lang_base.specs.Texts.{same_text}
use Rattle.repair_messages.specs.declared.posts.Post.TheVariants.{Set}
use Rattle.repair_messages.specs.declared.posts.PostName.{PostName}
use Rattle.repair_messages.specs.declared.posts.PostName.TheVariants.{Call, Reply as OfReply, Fetch as OfFetch}
use Rattle.call_registers.specs.Registers.{CountFrom, held_version, owes_fetch, register}
use Rattle.call_registers.specs.Replies.{reply, IsBelowAll, IsRising}
use Rattle.call_registers.specs.declared.register.Register.{Register}
use Rattle.call_registers.specs.declared.reply.Reply.{Reply}
use Rattle.service_events.specs.Ages.{GoesFirst}
use Rattle.service_events.specs.Fits.{Fits}
use Rattle.service_events.specs.Flying.{awaited}
use Rattle.service_events.specs.Posts.{is_unacknowledged, is_owed, is_to_fetch, Aged, aged_call, aged_fetch, aged_reply, outstanding, fetch_post, set_message, token_post, write_post}
use Rattle.service_events.specs.State.{Kept}
use Rattle.service_events.proofs.SearchLemmas.{text_is, contains_here, contains_cases}
use Rattle.service_parts.proofs.AgeLaws.{AgesOf}
use Rattle.service_parts.proofs.PostAges.{posts_aged}
use Rattle.repair_queue.specs.Queue.{IsOldest}
use Rattle.service_posts.specs.Goes.{GoesTo}

-- ---- what is in a list

from_map : {X Y : Type 0} (f : X → Y) (xs : List X) (y : Y) → Contains (map f xs) y → (x : X) × Contains xs x × (f x ≡ y)
from_map f [] y h = absurd (omega (arith, h.1))
from_map f (x ∷ xs) y h = elim (contains_cases (f x) y (map f xs) h) [
  | inl is ↦ (x, contains_here x xs, is)
  | inr later ↦ (let r = from_map f xs y later in (r.0, Contains-append_right (x ∷ []) xs r.0 r.1, r.2))
]

from_filter : {X : Type 0} (p : X → Bool) (xs : List X) (x : X) → Contains (filter p xs) x → Contains xs x × (p x ≡ true)
from_filter p [] x h = absurd (omega (arith, h.1))
from_filter p (y ∷ ys) x h = elim (cases_Bool (p y)) [
  | inl is ↦ (let here : Contains (y ∷ filter p ys) x = rw is at h in first y ys (contains_cases y x (filter p ys) here) is (from_filter p ys x))
  | inr other ↦ (let later : Contains (filter p ys) x = rw other at h in
      let r = from_filter p ys x later in (Contains-append_right (y ∷ []) ys x r.0, r.1))
]
  where
    first : (y : _) (ys : List _) → (y ≡ x) ⊎ Contains (filter p ys) x → p y ≡ true → (Contains (filter p ys) x → Contains ys x × (p x ≡ true)) → Contains (y ∷ ys) x × (p x ≡ true)
    first y ys (inl is) passes rest = (subst (λ z. Contains (y ∷ ys) z) is (contains_here y ys), ap p (sym is) ∙ passes)
    first y ys (inr later) passes rest = (let r = rest later in (Contains-append_right (y ∷ []) ys x r.0, r.1))

-- ---- registers

-- none has a number below the first
from_first : (n : ℕ) (rs : List Register) (r : Register) → CountFrom n rs → Contains rs r → n ≤ r.number
from_first n [] r h at = absurd (omega (arith, at.1))
from_first n (x ∷ xs) r h at = by (contains_cases x r xs at) (λ later. from_first (n + 1) xs r h.1 later)
  where
    by : (x ≡ r) ⊎ Contains xs r → (Contains xs r → n + 1 ≤ r.number) → n ≤ r.number
    by (inl is) rest = (let same : r.number ≡ n = ap (λ (y : Register). y.number) (sym is) ∙ h.0 in omega (arith, same))
    by (inr later) rest = (let above = rest later in omega (arith, above))

-- no two have one number
register_found : (n : ℕ) (rs : List Register) (r : Register) → CountFrom n rs → Contains rs r → register r.number rs ≡ Some r
register_found n [] r h at = absurd (omega (arith, at.1))
register_found n (x ∷ xs) r h at = by (contains_cases x r xs at) (λ later. register_found (n + 1) xs r h.1 later)
  where
    by : (x ≡ r) ⊎ Contains xs r → (Contains xs r → register r.number xs ≡ Some r) → register r.number (x ∷ xs) ≡ Some r
    by (inl is) rest = cond-true (nat_eq x.number r.number) (Some x) (register r.number xs) (eq-eqb x.number r.number (ap (λ (y : Register). y.number) is)) ∙ ap Some is
    by (inr later) rest =
        (let above = from_first (n + 1) xs r h.1 later in
        let number : x.number ≡ n = h.0 in
        cond-false (nat_eq x.number r.number) (Some x) (register r.number xs) (ne_eqb x.number r.number (omega (arith, above, number))) ∙ rest later)

-- ---- replies

-- no two are of one entry
below_all : (id : ℕ) (ps : List Reply) (p : Reply) → IsBelowAll id ps → Contains ps p → id < p.id
below_all id [] p h at = absurd (omega (arith, at.1))
below_all id (x ∷ xs) p h at = by (contains_cases x p xs at) (λ later. below_all id xs p h.1 later)
  where
    by : (x ≡ p) ⊎ Contains xs p → (Contains xs p → id < p.id) → id < p.id
    by (inl is) rest = subst (λ (y : Reply). id < y.id) is h.0
    by (inr later) rest = rest later

reply_found : (ps : List Reply) (p : Reply) → IsRising ps → Contains ps p → reply p.id ps ≡ Some p
reply_found [] p h at = absurd (omega (arith, at.1))
reply_found (x ∷ xs) p h at = by (contains_cases x p xs at) (λ later. reply_found xs p h.1 later)
  where
    by : (x ≡ p) ⊎ Contains xs p → (Contains xs p → reply p.id xs ≡ Some p) → reply p.id (x ∷ xs) ≡ Some p
    by (inl is) rest = cond-true (nat_eq x.id p.id) (Some x) (reply p.id xs) (eq-eqb x.id p.id (ap (λ (y : Reply). y.id) is)) ∙ ap Some is
    by (inr later) rest =
        (let below = below_all x.id xs p h.0 later in
        cond-false (nat_eq x.id p.id) (Some x) (reply p.id xs) (ne_eqb x.id p.id (omega (arith, below))) ∙ rest later)

-- ---- the message

module _ (s : Kept) (fits : Fits s) where
  -- it has a message, which goes there
  abbrev Goes : List ℕ → PostName → Type 0
  Goes dest name = IsSomeAnd (write_post s name) (GoesTo dest)

  call_written : (dest : List ℕ) (r : Register) → register r.number s.registers ≡ Some r → r.dest ≡ dest → Goes dest (Call r.number)
  call_written dest r found to = subst (λ o. IsSomeAnd (option_map (λ x. Set (set_message s x)) o) (GoesTo dest)) (sym found) to

  reply_written : (dest : List ℕ) (p : Reply) → reply p.id s.replies ≡ Some p → nat_lt 0 p.answer_version ≡ true → p.caller ≡ dest → Goes dest (OfReply p.id)
  reply_written dest p found positive to = subst (λ o. IsSomeAnd (token_post s o) (GoesTo dest)) (sym found) (rw positive to)

  fetch_written : (dest : List ℕ) (r : Register) → register r.number s.registers ≡ Some r → owes_fetch r ≡ true → r.dest ≡ dest → Goes dest (OfFetch r.number)
  fetch_written dest r found owes to =
      let parts = and_parts (is_some r.desired) (nat_lt (held_version r.answer) r.noted) owes in
      let above = ltb-true (held_version r.answer) r.noted parts.1 in
      let noted : nat_lt 0 r.noted ≡ true = lt-ltb 0 r.noted (omega (arith, above)) in
      subst (λ o. IsSomeAnd (fetch_post s o) (GoesTo dest)) (sym found) (rw noted to)

  named_written : (dest : List ℕ) (q : Aged) → Contains (outstanding s.registers s.replies (map awaited s.flights) dest) q → Goes dest q.name
  named_written dest q at =
      let calls = filter (is_unacknowledged (map awaited s.flights) dest) s.registers in
      let replies = filter (is_owed dest) s.replies in
      let fetches = filter (is_to_fetch dest) s.registers in
      by_kind (Contains-append_cases (map aged_call calls ++ map aged_reply replies) (map aged_fetch fetches) q at)
    where
      of_call : Contains (map aged_call (filter (is_unacknowledged (map awaited s.flights) dest) s.registers)) q → Goes dest q.name
      of_call at =
          let r = from_map aged_call (filter (is_unacknowledged (map awaited s.flights) dest) s.registers) q at in
          let of = from_filter (is_unacknowledged (map awaited s.flights) dest) s.registers r.0 r.1 in
          let awaits = list_any (nat_eq (r.0).number) (map awaited s.flights) in
          let one = and_parts (same_text (r.0).dest dest && nat_lt (r.0).acked (r.0).version && is_none (r.0).held) (not awaits) of.1 in
          let two = and_parts (same_text (r.0).dest dest && nat_lt (r.0).acked (r.0).version) (is_none (r.0).held) one.0 in
          let three = and_parts (same_text (r.0).dest dest) (nat_lt (r.0).acked (r.0).version) two.0 in
          subst (λ (x : Aged). Goes dest x.name) r.2
          (call_written dest r.0 (register_found 1 s.registers r.0 fits.sent.numbered of.0) (text_is (r.0).dest dest three.0))

      of_reply : Contains (map aged_reply (filter (is_owed dest) s.replies)) q → Goes dest q.name
      of_reply at =
          let p = from_map aged_reply (filter (is_owed dest) s.replies) q at in
          let of = from_filter (is_owed dest) s.replies p.0 p.1 in
          let one = and_parts (same_text (p.0).caller dest && (p.0).due && nat_lt 0 (p.0).answer_version) (is_none (p.0).held) of.1 in
          let two = and_parts (same_text (p.0).caller dest && (p.0).due) (nat_lt 0 (p.0).answer_version) one.0 in
          let three = and_parts (same_text (p.0).caller dest) (p.0).due two.0 in
          subst (λ (x : Aged). Goes dest x.name) p.2
          (reply_written dest p.0 (reply_found s.replies p.0 fits.replies.rising of.0) two.1 (text_is (p.0).caller dest three.0))

      of_fetch : Contains (map aged_fetch (filter (is_to_fetch dest) s.registers)) q → Goes dest q.name
      of_fetch at =
          let r = from_map aged_fetch (filter (is_to_fetch dest) s.registers) q at in
          let of = from_filter (is_to_fetch dest) s.registers r.0 r.1 in
          let parts = and_parts (owes_fetch r.0) (same_text (r.0).dest dest) of.1 in
          subst (λ (x : Aged). Goes dest x.name) r.2
          (fetch_written dest r.0 (register_found 1 s.registers r.0 fits.sent.numbered of.0) parts.0 (text_is (r.0).dest dest parts.1))

      of_first : Contains (map aged_call (filter (is_unacknowledged (map awaited s.flights) dest) s.registers)) q
          ⊎ Contains (map aged_reply (filter (is_owed dest) s.replies)) q → Goes dest q.name
      of_first (inl at) = of_call at
      of_first (inr at) = of_reply at

      by_kind : Contains (map aged_call (filter (is_unacknowledged (map awaited s.flights) dest) s.registers) ++ map aged_reply (filter (is_owed dest) s.replies)) q
          ⊎ Contains (map aged_fetch (filter (is_to_fetch dest) s.registers)) q → Goes dest q.name
      by_kind (inl at) =
          of_first (Contains-append_cases (map aged_call (filter (is_unacknowledged (map awaited s.flights) dest) s.registers)) (map aged_reply (filter (is_owed dest) s.replies)) q at)
      by_kind (inr at) = of_fetch at

  -- so the post that goes next has one
  pub post_goes : (dest : List ℕ) (name : Option PostName) → IfSome name (λ n. IsOldest n (outstanding s.registers s.replies (map awaited s.flights) dest))
      → IfSome name (Goes dest)
  post_goes dest None oldest = tt
  post_goes dest (Some name) oldest = subst (Goes dest) oldest.named (named_written dest oldest.post oldest.there)

  -- and none of the others waits since an earlier row
  pub post_first : AgesOf s → (dest : List ℕ) (name : Option PostName) → IfSome name (λ n. IsOldest n (outstanding s.registers s.replies (map awaited s.flights) dest))
      → IfSome name (GoesFirst dest s)
  post_first ages dest None oldest = tt
  post_first ages dest (Some name) oldest =
      let aged = posts_aged s fits ages dest in
      record { post = oldest.post; there = oldest.there; names = oldest.named; first = λ k d within. (aged k d within, oldest.first k d within) }
