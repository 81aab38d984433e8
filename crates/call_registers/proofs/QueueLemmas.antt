-- The queue of the items that wait: what a change makes of it, and what stands in it.
use Rattle.std.proofs.Common.{◌≡◌, ℕ, ◌+◌, ◌<◌, ◌≤◌, Bool, cond, ◌&&◌, List, [], ◌∷◌, ◌++◌, Option, Some, None, IfSome, find, length, set, get_or, nat_eq, slice_get, sym, ap, ◌∙◌, subst, arith}
use Rattle.std.specs.List.{position_or_len, sum_by, Any, Contains}
use Rattle.std.specs.Option.{option_and_then}
use Rattle.std.proofs.lemmas.Bool.{eqb-true, eq-eqb}
use Rattle.std.proofs.lemmas.Bool.Decides.{nat_tests}
use Rattle.std.proofs.lemmas.List.{length-set}
use Rattle.std.proofs.lemmas.List.Elements.{All-from_get_or}
use Rattle.std.proofs.lemmas.List.Sums.{sum_by_push, sum_by-set, sum_by-le, get_or-le-sum_by}
use Rattle.std.proofs.lemmas.List.Folds.{find_at}
use Rattle.std.proofs.lemmas.Option.{option_and_then_some, slice_get_within, get_or_from_slice_get}
use Rattle.lang_lists.specs.Ages.{weigh, each_once, of_code, IsExchanged, IsRising}
use Rattle.lang_lists.specs.declared.age_keys.AgeKey.{AgeKey}
use Rattle.lang_lists.proofs.SumLemmas.{count_all, some_adds, filter_keeps, filter_from, IsKept}
use Rattle.call_registers.specs.Queues.{adds, AreOldestFirst, IsQueue}

-- ---- how often a key stands there

abbrev pub same_key : AgeKey → AgeKey → Bool
same_key a b = nat_eq a.code b.code && (nat_eq a.since b.since && nat_eq a.number b.number)

-- a sum over keys by this is how often a key stands there
abbrev pub often : AgeKey → AgeKey → ℕ
often k x = cond (same_key k x) 1 0

often_itself : (k : AgeKey) → often k k ≡ 1
often_itself k = grind (arith, nat_tests)

is_the_key : (k x : AgeKey) → 0 < often k x → x ≡ k
is_the_key k x h = grind (arith, nat_tests)

is_the_option : (k : AgeKey) (o : Option AgeKey) → 0 < weigh (often k) o → o ≡ Some k
is_the_option k None h = absurd (omega (arith, h))
is_the_option k (Some x) h = ap Some (is_the_key k x h)

contains_any : (k : AgeKey) (keys : List AgeKey) → Any (λ x. 0 < often k x) keys → Contains keys k
contains_any k keys (i, x, lt, is, more) = let same : x ≡ k = is_the_key k x more in subst (Contains keys) same (i, lt, is)

-- a key that adds to such a sum is there
pub counted : (k : AgeKey) (keys : List AgeKey) → 0 < sum_by (often k) keys → Contains keys k
counted k keys h = contains_any k keys (some_adds (often k) keys h)

at_most_once : (o : Option AgeKey) → weigh each_once o ≤ 1
at_most_once None = omega arith
at_most_once (Some k) = omega arith

-- ---- what is found stands at a place

pub record StandsAt {X : Type 0} (xs : List X) (x : X) : Type 0 where
  pub place : ℕ
  pub within : place < length xs
  pub is : get_or xs place x ≡ x

pub stands_at : {X : Type 0} (p : X → Bool) (xs : List X) (x : X) → find p xs ≡ Some x → StandsAt xs x
stands_at p xs x found =
    let e : slice_get xs (position_or_len p xs) ≡ Some x = sym (find_at p xs) ∙ found in
    record { place = position_or_len p xs; within = slice_get_within xs (position_or_len p xs) x e; is = get_or_from_slice_get xs (position_or_len p xs) x x e }

module _ {X : Type 0} (key : X → Option AgeKey) where
  -- ---- what a change makes of it

  module _ (xs : List X) (keys : List AgeKey) (queued : IsQueue key xs keys) (place : ℕ) (old : X) (within : place < length xs) (is : old ≡ get_or xs place old) where
    there_if : (o : Option AgeKey) → ((f : AgeKey → ℕ) → weigh f o ≤ sum_by f keys) → IfSome o (Contains keys)
    there_if None more = tt
    there_if (Some k) more = counted k keys (let a = more (often k) in let b = often_itself k in omega arith)

    -- its key stands there
    pub key_there : IfSome (key old) (Contains keys)
    key_there = there_if (key old) (λ f.
        let a = queued f in
        let b = get_or-le-sum_by (adds key f) xs place old within in
        let c = ap (adds key f) is in
        omega arith)

    module _ (new : X) where
      -- there is a place for another in its stead
      pub key_room : length keys + weigh each_once (key new) ≤ length xs + weigh each_once (key old)
      key_room =
          let a = queued each_once in
          let b = count_all keys in
          let c = sum_by-set (adds key each_once) xs place new old within in
          let d = ap (adds key each_once) is in
          let e = sum_by-le (adds key each_once) 1 (set xs place new) (All-from_get_or (λ x. adds key each_once x ≤ 1) (set xs place new) old (λ i lt.
          at_most_once (key (get_or (set xs place new) i old)))) in
          let f = length-set xs place new in
          omega arith

      pub replaced : (after : List AgeKey) → IsExchanged (key old) (key new) keys after → IsQueue key (set xs place new) after
      replaced after exchanged f =
          let a = queued f in
          let b = exchanged f in
          let c = sum_by-set (adds key f) xs place new old within in
          let d = ap (adds key f) is in
          omega arith

  pub pushed : (xs : List X) (keys after : List AgeKey) (new : X) → IsQueue key xs keys → IsExchanged None (key new) keys after → IsQueue key (xs ++ new ∷ []) after
  pushed xs keys after new queued exchanged f =
      let a = queued f in
      let b = exchanged f in
      let c = sum_by_push (adds key f) xs new in
      omega arith

  no_more : (xs : List X) (keys : List AgeKey) → IsQueue key xs keys → length keys ≤ length xs
  no_more xs keys queued =
      let a = queued each_once in
      let b = count_all keys in
      let c = sum_by-le (adds key each_once) 1 xs (λ i d lt. at_most_once (key (get_or xs i d))) in
      omega arith

  pub queue_has_room : (xs : List X) (keys : List AgeKey) (new : X) (places : ℕ) → IsQueue key xs keys → length xs < places → length keys + weigh each_once (key new) ≤ places
  queue_has_room xs keys new places queued lt =
      let a = no_more xs keys queued in
      let b = at_most_once (key new) in
      omega arith

  -- ---- what stands in it

  -- each item is the first that passes the test of its number, which is that of its key
  module _ (number : X → ℕ) (is_of : ℕ → X → Bool) (xs : List X) (keys : List AgeKey) (named : (x : X) (k : AgeKey) → key x ≡ Some k → k.number ≡ number x)
      (itself : (i : ℕ) (d : X) → i < length xs → find (is_of (number (get_or xs i d))) xs ≡ Some (get_or xs i d)) (queued : IsQueue key xs keys) where
    abbrev found : ℕ → Option X
    found n = find (is_of n) xs

    from_item : (k : AgeKey) → Any (λ x. 0 < adds key (often k) x) xs → option_and_then key (found k.number) ≡ Some k
    from_item k (i, x, lt, is, more) =
        let waits : key x ≡ Some k = is_the_option k (key x) more in
        let here : found (number x) ≡ Some x = subst (λ y. found (number y) ≡ Some y) is (itself i x lt) in
        ap (λ n. option_and_then key (found n)) (named x k waits) ∙ ap (option_and_then key) here ∙ waits

    -- a key that stands there is that of an item
    key_from : (k : AgeKey) → Contains keys k → option_and_then key (found k.number) ≡ Some k
    key_from k (i, lt, is) =
        let a = queued (often k) in
        let b = get_or-le-sum_by (often k) keys i k lt in
        let c = ap (often k) is in
        let d = often_itself k in
        from_item k (some_adds (adds key (often k)) xs (omega arith))

    to_key : (k : AgeKey) (x : X) → found k.number ≡ Some x → key x ≡ Some k → Contains keys k
    to_key k x here waits =
        let s = stands_at (is_of k.number) xs x here in
        let a = queued (often k) in
        let b = get_or-le-sum_by (adds key (often k)) xs s.place x s.within in
        let c = ap (adds key (often k)) s.is in
        let d = ap (weigh (often k)) waits in
        let e = often_itself k in
        counted k keys (omega arith)

    -- and that of an item stands there
    key_to : (k : AgeKey) → option_and_then key (found k.number) ≡ Some k → Contains keys k
    key_to k e = option_and_then_some key (found k.number) k e (λ x here waits. to_key k x here waits)

    pub are_oldest_first : (code asked : ℕ) (of : List AgeKey) → asked ≡ code → of ≡ of_code asked keys → IsRising of → AreOldestFirst code (λ n. option_and_then key (found n)) of
    are_oldest_first code asked of named_so is rising = record {
      rising = rising;
      only = λ k there. (let kept : IsKept (λ (x : AgeKey). nat_eq x.code asked) keys k = filter_from (λ (x : AgeKey). nat_eq x.code asked) keys k (subst (λ l. Contains l k) is there) in
          (eqb-true k.code asked kept.passes ∙ named_so, key_from k kept.there));
      all = λ k here e. subst (λ l. Contains l k) (sym is) (filter_keeps (λ (x : AgeKey). nat_eq x.code asked) keys k (key_to k e) (eq-eqb k.code asked (here ∙ sym named_so)));
    }
