-- The oldest post that is outstanding: what a walk finds, and what stands beside it.
use Rattle.std.proofs.Common.{◌≡◌, ◌∙◌, ◌↔◌, ◌⊎◌, refl, sym, ap, ℕ, ◌≤◌, Bool, true, false, List, [], ◌∷◌, ◌++◌, Option, Some, None, IfSome, All, Contains, cond, filter, fold, map, nat_lt, option_map, inl, inr, arith}
use Rattle.std.proofs.lemmas.List.Elements.{All-nil, All-cons, All-head, All-tail, Contains-append_cases, Contains-append_left, Contains-append_right}
use Rattle.std.proofs.lemmas.List.Sums.{fold-append}
use Rattle.std.proofs.lemmas.List.Folds.{fold-map}
use borrow.Author.Tests.{ltb-true, ltb-false}
use Rattle.repair_messages.specs.declared.posts.PostName.{PostName}
use Rattle.call_registers.specs.declared.register.Register.{Register}
use Rattle.call_registers.specs.declared.reply.Reply.{Reply}
use Rattle.service_events.specs.Posts.{Aged, aged_call, aged_fetch, aged_reply, is_owed, is_to_fetch, is_unacknowledged, older, oldest, outstanding}
use Rattle.repair_queue.specs.Queue.{IsOldest, first_name, older_of, with_call, with_fetch, with_reply}
use Rattle.repair_queue.proofs.FoldLemmas.{fold_filter}

-- ---- a walk

calls_walk : (awaited dest : List ℕ) (o : Option Aged) (registers : List Register)
    → fold (with_call awaited dest) o registers ≡ fold older o (map aged_call (filter (is_unacknowledged awaited dest) registers))
calls_walk awaited dest o registers =
    fold_filter (is_unacknowledged awaited dest) (λ o r. older o (aged_call r)) o registers
    ∙ sym (fold-map older aged_call o (filter (is_unacknowledged awaited dest) registers))

replies_walk : (dest : List ℕ) (o : Option Aged) (replies : List Reply)
    → fold (with_reply dest) o replies ≡ fold older o (map aged_reply (filter (is_owed dest) replies))
replies_walk dest o replies =
    fold_filter (is_owed dest) (λ o p. older o (aged_reply p)) o replies ∙ sym (fold-map older aged_reply o (filter (is_owed dest) replies))

fetches_walk : (dest : List ℕ) (o : Option Aged) (registers : List Register)
    → fold (with_fetch dest) o registers ≡ fold older o (map aged_fetch (filter (is_to_fetch dest) registers))
fetches_walk dest o registers =
    fold_filter (is_to_fetch dest) (λ o r. older o (aged_fetch r)) o registers
    ∙ sym (fold-map older aged_fetch o (filter (is_to_fetch dest) registers))

older_first : (p f q : Aged) → older (cond (nat_lt p.since f.since) (Some p) (Some f)) q ≡ older_of (Some f) (cond (nat_lt q.since p.since) (Some q) (Some p))
older_first p f q = by (nat_lt p.since f.since) (nat_lt q.since p.since) (nat_lt q.since f.since) refl refl refl
  where
    by : (pf qp qf : Bool) → nat_lt p.since f.since ≡ pf → nat_lt q.since p.since ≡ qp → nat_lt q.since f.since ≡ qf
        → older (cond pf (Some p) (Some f)) q ≡ older_of (Some f) (cond qp (Some q) (Some p))
    by true true true a b c = rw (b, c) refl
    by true true false a b c =
        let one = ltb-true p.since f.since a in
        let two = ltb-true q.since p.since b in
        let three = ltb-false q.since f.since c in
        absurd (omega (arith, one, two, three))
    by true false qf a b c = rw (b, a) refl
    by false true qf a b c = refl
    by false false true a b c =
        let one = ltb-false p.since f.since a in
        let two = ltb-false q.since p.since b in
        let three = ltb-true q.since f.since c in
        absurd (omega (arith, one, two, three))
    by false false false a b c = rw (c, a) refl

-- of three the oldest is found in either order
in_order : (o m : Option Aged) (p : Aged) → older_of (older o p) m ≡ older_of o (older_of (Some p) m)
in_order None None p = refl
in_order (Some f) None p = refl
in_order None (Some q) p = by (nat_lt q.since p.since)
  where
    by : (b : Bool) → cond b (Some q) (Some p) ≡ older_of None (cond b (Some q) (Some p))
    by true = refl
    by false = refl
in_order (Some f) (Some q) p = older_first p f q

apart : (o : Option Aged) (posts : List Aged) → fold older o posts ≡ older_of o (oldest posts)
apart o [] = refl
apart o (p ∷ ps) = apart (older o p) ps ∙ in_order o (oldest ps) p ∙ ap (older_of o) (sym (apart (Some p) ps))

-- over the registers, and over the replies
both_walk : (registers : List Register) (replies : List Reply) (awaited dest : List ℕ)
    → older_of (fold (with_call awaited dest) None registers) (fold (with_reply dest) None replies)
    ≡ oldest (map aged_call (filter (is_unacknowledged awaited dest) registers) ++ map aged_reply (filter (is_owed dest) replies))
both_walk registers replies awaited dest =
    let calls = map aged_call (filter (is_unacknowledged awaited dest) registers) in
    let owed = map aged_reply (filter (is_owed dest) replies) in
    ap (older_of (fold (with_call awaited dest) None registers)) (replies_walk dest None replies)
    ∙ ap (λ o. older_of o (oldest owed)) (calls_walk awaited dest None registers)
    ∙ sym (apart (oldest calls) owed)
    ∙ sym (fold-append older None calls owed)

-- and over the registers once more
walk_is : (registers : List Register) (replies : List Reply) (awaited dest : List ℕ)
    → older_of (older_of (fold (with_call awaited dest) None registers) (fold (with_reply dest) None replies)) (fold (with_fetch dest) None registers)
    ≡ oldest (outstanding registers replies awaited dest)
walk_is registers replies awaited dest =
    let calls = map aged_call (filter (is_unacknowledged awaited dest) registers) in
    let owed = map aged_reply (filter (is_owed dest) replies) in
    let fetches = map aged_fetch (filter (is_to_fetch dest) registers) in
    ap (older_of (older_of (fold (with_call awaited dest) None registers) (fold (with_reply dest) None replies))) (fetches_walk dest None registers)
    ∙ ap (λ o. older_of o (oldest fetches)) (both_walk registers replies awaited dest)
    ∙ sym (apart (oldest (calls ++ owed)) fetches)
    ∙ sym (fold-append older None (calls ++ owed) fetches)

-- ---- what stands beside it

-- one of these posts is what a walk over them ends with, and none is older
record EndsWith (posts : List Aged) (end : Option Aged) : Type 0 where
  post : Aged
  is : end ≡ Some post
  there : Contains posts post
  first : All (λ (p : Aged). post.since ≤ p.since) posts

later : (p x : Aged) (xs : List Aged) (q : Aged) → Contains (p ∷ []) q ⊎ Contains xs q → Contains (p ∷ (x ∷ xs)) q
later p x xs q (inl first) = Contains-append_left (p ∷ []) (x ∷ xs) q first
later p x xs q (inr rest) = Contains-append_right (p ∷ x ∷ []) xs q rest

ends_with : (p : Aged) (ps : List Aged) → EndsWith (p ∷ ps) (fold older (Some p) ps)
ends_with p [] = record {
  post = p;
  is = refl;
  there = (0, omega arith, refl);
  first = All-cons (λ (x : Aged). p.since ≤ x.since) p [] (omega arith) (All-nil (λ (x : Aged). p.since ≤ x.since));
}
ends_with p (x ∷ xs) = by (nat_lt x.since p.since) refl (ends_with x xs) (ends_with p xs)
  where
    by : (b : Bool) → nat_lt x.since p.since ≡ b → EndsWith (x ∷ xs) (fold older (Some x) xs) → EndsWith (p ∷ xs) (fold older (Some p) xs) → EndsWith (p ∷ (x ∷ xs)) (fold older (cond b (Some x) (Some p)) xs)
    by true is r other =
        let less = ltb-true x.since p.since is in
        let least = All-head (λ (y : Aged). (r.post).since ≤ y.since) x xs r.first in
        record {
          post = r.post;
          is = r.is;
          there = Contains-append_right (p ∷ []) (x ∷ xs) r.post r.there;
          first = All-cons (λ (y : Aged). (r.post).since ≤ y.since) p (x ∷ xs) (omega (arith, less, least)) r.first;
        }
    by false is other r =
        let more = ltb-false x.since p.since is in
        let least = All-head (λ (y : Aged). (r.post).since ≤ y.since) p xs r.first in
        record {
          post = r.post;
          is = r.is;
          there = later p x xs r.post (Contains-append_cases (p ∷ []) xs r.post r.there);
          first = All-cons (λ (y : Aged). (r.post).since ≤ y.since) p (x ∷ xs) least
              (All-cons (λ (y : Aged). (r.post).since ≤ y.since) x xs (omega (arith, more, least)) (All-tail (λ (y : Aged). (r.post).since ≤ y.since) p xs r.first));
        }

pub none_is : (posts : List Aged) → (first_name posts ≡ None) ↔ (posts ≡ [])
none_is [] = (λ e. refl, λ e. refl)
none_is (p ∷ ps) = (λ e. some (ends_with p ps) e, λ e. cc)
  where
    some : EndsWith (p ∷ ps) (fold older (Some p) ps) → first_name (p ∷ ps) ≡ None → p ∷ ps ≡ []
    some r e = (let clash : Some (r.post).name ≡ None = sym (ap (option_map (λ (q : Aged). q.name)) r.is) ∙ e in cc)

pub oldest_is : (posts : List Aged) (name : Option PostName) → name ≡ first_name posts → IfSome name (λ n. IsOldest n posts)
oldest_is posts None e = tt
oldest_is [] (Some name) e = cc
oldest_is (p ∷ ps) (Some name) e =
    let r = ends_with p ps in
    record { post = r.post; there = r.there; named = named r e; first = r.first }
  where
    named : (r : EndsWith (p ∷ ps) (fold older (Some p) ps)) → Some name ≡ first_name (p ∷ ps) → (r.post).name ≡ name
    named r e = (let same : Some name ≡ Some (r.post).name = e ∙ ap (option_map (λ (q : Aged). q.name)) r.is in cc)

-- ---- the code's way there

pub next_is : (registers : List Register) (replies : List Reply) (awaited dest : List ℕ) (call reply fetch both first : Option Aged) (name : Option PostName)
    → call ≡ fold (with_call awaited dest) None registers → reply ≡ fold (with_reply dest) None replies → fetch ≡ fold (with_fetch dest) None registers
    → both ≡ older_of call reply → first ≡ older_of both fetch → name ≡ option_map (λ (p : Aged). p.name) first
    → name ≡ first_name (outstanding registers replies awaited dest)
next_is registers replies awaited dest call reply fetch both first name of_calls of_replies of_fetches of_both of_all of_first =
    let calls = fold (with_call awaited dest) None registers in
    of_first
    ∙ ap (option_map (λ (p : Aged). p.name))
    (of_all
    ∙ ap (λ o. older_of o fetch) (of_both ∙ ap (λ o. older_of o reply) of_calls ∙ ap (older_of calls) of_replies)
    ∙ ap (older_of (older_of calls (fold (with_reply dest) None replies))) of_fetches
    ∙ walk_is registers replies awaited dest)
