-- Where a place stands in a list in order, told by one comparison.
use Rattle.std.proofs.Common.{◌≡◌, ℕ, zero, suc, ◌+◌, ◌<◌, ◌≤◌, true, false, List, [], ◌∷◌, length, get_or, Some, None, refl, sym, ap, ◌∙◌, subst, inl, inr, arith}
use Rattle.std.specs.declared.cmp.Ordering.{Ordering}
use Rattle.std.specs.declared.cmp.Ordering.TheVariants.{Less, Equal, Greater}
use Rattle.std.specs.Ordering.{ordering_reverse, ordering_then, is_eq, is_gt}
use Rattle.std.specs.List.{find}
use Rattle.std.specs.List.Sorted.{IsPartitionedBy, IsPartitionPoint}
use Rattle.lang_core.specs.Places.{Place, place_of, place_order, same_place, IsBelowAll, IsOrdered, by_order, rank, is_taken}
use Rattle.std.proofs.lemmas.Bool.{cases_lt}
use Rattle.std.proofs.lemmas.Cmp.{nat_list_eq_equiv}
use Rattle.std.proofs.lemmas.List.{get_or_default}
use Rattle.std.proofs.lemmas.Map.Text.{is_eq-slice_cmp}
use Rattle.lang_tree.specs.HandedOn.{same_text, text_order}
use Rattle.lang_core.proofs.PlaceLemmas.{total, below_before}
use Rattle.lang_core.proofs.ReadLemmas.{same-order}

-- in one table keys tell the order, and in two the tables alone
same_then : (o q : Ordering) → is_eq o ≡ true → q ≡ ordering_then o q
same_then Less q h = cc
same_then Equal q h = refl
same_then Greater q h = cc

other_then : (o q : Ordering) → is_eq o ≡ false → o ≡ ordering_then o q
other_then Less q h = refl
other_then Equal q h = cc
other_then Greater q h = refl

pub in_one : (t u k l : List ℕ) → t ≡ u → text_order k l ≡ place_order (place_of t k) (place_of u l)
in_one t u k l e =
    let P : List ℕ → Type 0 = λ v. text_order k l ≡ place_order (place_of t k) (place_of v l) in
    subst P e (same_then (text_order t t) (text_order k l) (is_eq-slice_cmp t t ∙ nat_list_eq_equiv.refl t))

pub in_two : (t u k l : List ℕ) → same_text t u ≡ false → text_order t u ≡ place_order (place_of t k) (place_of u l)
in_two t u k l h = other_then (text_order t u) (text_order k l) (is_eq-slice_cmp t u ∙ h)

module _ {X : Type 0} (place : X → Place) (p : Place) where
  below_each : (q : Place) (xs : List X) (i : ℕ) (x : X) → IsBelowAll place q xs → i < length xs → x ≡ get_or xs i x → place_order q (place x) ≡ Less
  below_each q [] i x all lt is = absurd (omega arith)
  below_each q (y ∷ ys) zero x all lt is = ap (λ z. place_order q (place z)) is ∙ all.0
  below_each q (y ∷ ys) (suc i) x all lt is = below_each q ys i x all.1 (omega arith) is

  -- what is above a later one is above an earlier one
  above_earlier : (y x : X) → place_order (place y) (place x) ≡ Less → place_order p (place x) ≡ Greater → place_order p (place y) ≡ Greater
  above_earlier y x lt h =
      let back : place_order (place x) p ≡ Less = total.antisymm (place x) p ∙ ap ordering_reverse h in
      total.antisymm p (place y) ∙ ap ordering_reverse (total.trans (place y) (place x) p lt back)

  -- the tests that the search by halves asks: what is below stands in front
  is_above : (o : Ordering) → is_gt o ≡ true → o ≡ Greater
  is_above Less is = cc
  is_above Equal is = cc
  is_above Greater is = refl

  pub parted : (xs : List X) → IsOrdered place xs → IsPartitionedBy (λ x. is_gt (place_order p (place x))) xs
  parted [] o i j d le lt h = absurd (omega (arith, lt))
  parted (y ∷ ys) o zero zero d le lt h = h
  parted (y ∷ ys) o zero (suc j) d le lt h =
      let x = get_or ys j d in
      let less = below_each (place y) ys j x o.0 (omega (arith, lt)) (get_or_default ys j d x (omega (arith, lt))) in
      ap is_gt (above_earlier y x less (is_above (place_order p (place x)) h))
  parted (y ∷ ys) o (suc i) zero d le lt h = absurd (omega (arith, le))
  parted (y ∷ ys) o (suc i) (suc j) d le lt h = parted ys o.1 i j d (omega (arith, le)) (omega (arith, lt)) h

  rank_by : (y : X) (ys : List X) (n : ℕ) (o : Ordering) → place_order p (place y) ≡ o
      → IsPartitionPoint (λ x. is_gt (place_order p (place x)) ≡ true) (λ x. is_gt (place_order p (place x)) ≡ false) (y ∷ ys) n → n ≤ suc (length ys)
      → ((m : ℕ) → n ≡ suc m → m ≡ rank place p ys) → n ≡ by_order o 0 0 (suc (rank place p ys))
  rank_by y ys zero Less e point le more = refl
  rank_by y ys zero Equal e point le more = refl
  rank_by y ys zero Greater e point le more = let here = point.1 zero y (omega arith) (omega arith) in let is = ap is_gt e in cc
  rank_by y ys (suc n) Less e point le more = let here = point.0 zero y (omega arith) (omega arith) in let is = ap is_gt e in cc
  rank_by y ys (suc n) Equal e point le more = let here = point.0 zero y (omega arith) (omega arith) in let is = ap is_gt e in cc
  rank_by y ys (suc n) Greater e point le more = ap suc (more n refl)

  -- the rank is where these are parted
  pub rank_parted : (xs : List X) (n : ℕ) → n ≤ length xs
      → IsPartitionPoint (λ x. is_gt (place_order p (place x)) ≡ true) (λ x. is_gt (place_order p (place x)) ≡ false) xs n → n ≡ rank place p xs
  rank_parted [] n le point = omega (arith, le)
  rank_parted (y ∷ ys) zero le point = rank_by y ys zero (place_order p (place y)) refl point le (λ m e. cc)
  rank_parted (y ∷ ys) (suc n) le point =
      rank_by y ys (suc n) (place_order p (place y)) refl point le (λ m e.
      let is : n ≡ rank place p ys = rank_parted ys n (omega (arith, le)) (λ k d from to. point.0 (suc k) d (omega arith) (omega (arith, to)), λ k d from to. point.1 (suc k) d (omega (arith, from)) (omega (arith, to))) in
      omega (arith, is, e))

  nowhere_by : (y : X) (ys : List X) (o : Ordering) → by_order o 0 0 (suc (rank place p ys)) ≡ suc (length ys) → (rank place p ys ≡ length ys → is_taken place p ys ≡ false)
      → by_order o false true (is_taken place p ys) ≡ false
  nowhere_by y ys Less e more = refl
  nowhere_by y ys Equal e more = cc
  nowhere_by y ys Greater e more = more (omega (arith, e))

  -- nothing stands at a place above all
  pub taken_nowhere : (xs : List X) → rank place p xs ≡ length xs → is_taken place p xs ≡ false
  taken_nowhere [] e = refl
  taken_nowhere (y ∷ ys) e = nowhere_by y ys (place_order p (place y)) e (taken_nowhere ys)

  there_by : (y : X) (ys : List X) (x : X) (o : Ordering) → place_order p (place y) ≡ o → by_order o 0 0 (suc (rank place p ys)) < suc (length ys)
      → x ≡ get_or (y ∷ ys) (by_order o 0 0 (suc (rank place p ys))) x
      → (rank place p ys < length ys → x ≡ get_or ys (rank place p ys) x → is_eq (place_order p (place x)) ≡ is_taken place p ys)
      → is_eq (place_order p (place x)) ≡ by_order o false true (is_taken place p ys)
  there_by y ys x Less e lt is more = ap (λ z. is_eq (place_order p (place z))) is ∙ ap is_eq e
  there_by y ys x Equal e lt is more = ap (λ z. is_eq (place_order p (place z))) is ∙ ap is_eq e
  there_by y ys x Greater e lt is more = more (omega (arith, lt)) is

  at_rank : (xs : List X) (x : X) → rank place p xs < length xs → x ≡ get_or xs (rank place p xs) x → is_eq (place_order p (place x)) ≡ is_taken place p xs
  at_rank [] x lt is = absurd (omega (arith, lt))
  at_rank (y ∷ ys) x lt is = there_by y ys x (place_order p (place y)) refl lt is (at_rank ys x)

  -- whether something stands at the place is told by what stands at its rank
  pub taken_there : (xs : List X) (at : ℕ) (x : X) → at ≡ rank place p xs → at < length xs → x ≡ get_or xs at x → (o : Ordering) → o ≡ place_order p (place x) → is_eq o ≡ is_taken place p xs
  taken_there xs at x rank_is lt is o same = ap is_eq same ∙ at_rank xs x (omega (arith, rank_is, lt)) (is ∙ ap (λ i. get_or xs i x) rank_is)

  same_by : (y : X) (o : Ordering) → place_order p (place y) ≡ o → same_place (place y) p ≡ is_eq (ordering_reverse o)
  same_by y o e = same-order (place y) p ∙ ap is_eq (total.antisymm (place y) p ∙ ap ordering_reverse e)

  pub none_above : (xs : List X) → IsBelowAll place p xs → find (λ x. same_place (place x) p) xs ≡ None
  none_above [] all = refl
  none_above (x ∷ xs) all = let differs : same_place (place x) p ≡ false = same_by x Less all.0 in rw differs (none_above xs all.1)

  none_by : (y : X) (ys : List X) (o : Ordering) → place_order p (place y) ≡ o → IsBelowAll place (place y) ys → by_order o false true (is_taken place p ys) ≡ false
      → (is_taken place p ys ≡ false → find (λ x. same_place (place x) p) ys ≡ None) → find (λ x. same_place (place x) p) (y ∷ ys) ≡ None
  none_by y ys Less e all h more = none_above (y ∷ ys) (e, below_before place p (place y) ys e all)
  none_by y ys Equal e all h more = cc
  none_by y ys Greater e all h more = let differs : same_place (place y) p ≡ false = same_by y Greater e in rw differs (more h)

  -- what is found at the place, by rank
  pub find_none : (xs : List X) → IsOrdered place xs → is_taken place p xs ≡ false → find (λ x. same_place (place x) p) xs ≡ None
  find_none [] o h = refl
  find_none (y ∷ ys) o h = none_by y ys (place_order p (place y)) refl o.0 h (find_none ys o.1)

  some_by : (y x : X) (ys : List X) (o : Ordering) → place_order p (place y) ≡ o → by_order o false true (is_taken place p ys) ≡ true
      → x ≡ get_or (y ∷ ys) (by_order o 0 0 (suc (rank place p ys))) x
      → (is_taken place p ys ≡ true → x ≡ get_or ys (rank place p ys) x → find (λ x. same_place (place x) p) ys ≡ Some x) → find (λ x. same_place (place x) p) (y ∷ ys) ≡ Some x
  some_by y x ys Less e h is more = cc
  some_by y x ys Equal e h is more = let here : same_place (place y) p ≡ true = same_by y Equal e in rw here (ap Some (sym is))
  some_by y x ys Greater e h is more = let differs : same_place (place y) p ≡ false = same_by y Greater e in rw differs (more h is)

  pub find_some : (xs : List X) (x : X) → is_taken place p xs ≡ true → x ≡ get_or xs (rank place p xs) x → find (λ x. same_place (place x) p) xs ≡ Some x
  find_some [] x h is = cc
  find_some (y ∷ ys) x h is = some_by y x ys (place_order p (place y)) refl h is (find_some ys x)

  -- an earlier item is below a later one
  pair : (xs : List X) (i j : ℕ) (d : X) → IsOrdered place xs → i < j → j < length xs → place_order (place (get_or xs i d)) (place (get_or xs j d)) ≡ Less
  pair [] i j d o lt within = absurd (omega (arith, within))
  pair (y ∷ ys) i zero d o lt within = absurd (omega (arith, lt))
  pair (y ∷ ys) zero (suc j) d o lt within =
      let x = get_or ys j d in
      below_each (place y) ys j x o.0 (omega (arith, within)) (get_or_default ys j d x (omega (arith, within)))
  pair (y ∷ ys) (suc i) (suc j) d o lt within = pair ys i j d o.1 (omega (arith, lt)) (omega (arith, within))

  -- what is below an earlier item is below a later one
  below_later : (x y : X) → place_order p (place x) ≡ Less → place_order (place x) (place y) ≡ Less → place_order p (place y) ≡ Less
  below_later x y h lt = total.trans p (place x) (place y) h lt

  -- so many at the front are below the place, and all from another place on above it
  pub record IsSought (xs : List X) (low : ℕ) (high : ℕ) : Type 0 where
    pub front : (k : ℕ) (d : X) → k < low → place_order p (place (get_or xs k d)) ≡ Greater
    pub rest : (k : ℕ) (d : X) → high ≤ k → k < length xs → place_order p (place (get_or xs k d)) ≡ Less

  module _ (xs : List X) (o : IsOrdered place xs) (m : ℕ) (x : X) (lt : m < length xs) (is : x ≡ get_or xs m x) where
    at_m : (r : Ordering) → r ≡ place_order p (place x) → (d : X) → place_order p (place (get_or xs m d)) ≡ r
    at_m r h d = ap (λ z. place_order p (place z)) (get_or_default xs m d x lt ∙ sym is) ∙ sym h

    -- after a comparison with the item there
    pub sought_front : (low high : ℕ) → Greater ≡ place_order p (place x) → IsSought xs low high → IsSought xs (m + 1) high
    sought_front low high h sought = record {
      front = λ k d below. elim (cases_lt k m) [
        | inl less ↦ above_earlier (get_or xs k d) (get_or xs m d) (pair xs k m d o less lt) (at_m Greater h d)
        | inr ge ↦ (let e : k ≡ m = omega (arith, below, ge) in ap (λ i. place_order p (place (get_or xs i d))) e ∙ at_m Greater h d)
      ];
      rest = sought.rest;
    }

    pub sought_rest : (low high : ℕ) → Less ≡ place_order p (place x) → IsSought xs low high → IsSought xs low m
    sought_rest low high h sought = record {
      front = sought.front;
      rest = λ k d from to. elim (cases_lt m k) [
        | inl less ↦ below_later (get_or xs m d) (get_or xs k d) (at_m Less h d) (pair xs m k d o less to)
        | inr ge ↦ (let e : k ≡ m = omega (arith, from, ge) in ap (λ i. place_order p (place (get_or xs i d))) e ∙ at_m Less h d)
      ];
    }

    -- the item at the place itself is at its rank
    pub found_rank : Equal ≡ place_order p (place x) → m ≡ rank place p xs
    found_rank h =
        let before : (k : ℕ) (d : X) → k < m → place_order p (place (get_or xs k d)) ≡ Greater = λ k d less.
        total.congr p (place (get_or xs m d)) (place (get_or xs k d)) (at_m Equal h d)
        ∙ total.antisymm (place (get_or xs m d)) (place (get_or xs k d)) ∙ ap ordering_reverse (pair xs k m d o less lt) in
        let after : (k : ℕ) (d : X) → m < k → k < length xs → place_order p (place (get_or xs k d)) ≡ Less = λ k d less to.
        total.congr p (place (get_or xs m d)) (place (get_or xs k d)) (at_m Equal h d) ∙ pair xs m k d o less to in
        rank_parted xs m (omega (arith, lt)) (
          λ k d from to. ap is_gt (before k d to),
          λ k d from to. elim (cases_lt m k) [
            | inl less ↦ ap is_gt (after k d less to)
            | inr ge ↦ (let e : k ≡ m = omega (arith, from, ge) in ap (λ i. is_gt (place_order p (place (get_or xs i d)))) e ∙ ap is_gt (at_m Equal h d))
          ],
        )

    pub found_taken : Equal ≡ place_order p (place x) → is_taken place p xs ≡ true
    found_taken h = sym (taken_there xs m x (found_rank h) lt is Equal h)

  -- where the front meets the rest nothing stands at the place
  pub sought_rank : (xs : List X) (n high : ℕ) → n ≤ length xs → high ≤ n → IsSought xs n high → n ≡ rank place p xs
  sought_rank xs n high le met sought = rank_parted xs n le (λ k d from to. ap is_gt (sought.front k d to), λ k d from to. ap is_gt (sought.rest k d (omega (arith, met, from)) to))

  taken_at : (xs : List X) (n : ℕ) (x : X) → n ≡ rank place p xs → n < length xs → x ≡ get_or xs n x → place_order p (place x) ≡ Less → is_taken place p xs ≡ false
  taken_at xs n x e lt is h = sym (taken_there xs n x e lt is Less (sym h))

  head : (xs : List X) (n : ℕ) → n < length xs → (x : X) × (x ≡ get_or xs n x)
  head [] n lt = absurd (omega (arith, lt))
  head (y ∷ ys) zero lt = (y, refl)
  head (y ∷ ys) (suc n) lt = head ys n (omega (arith, lt))

  pub sought_taken : (xs : List X) (n high : ℕ) → n ≤ length xs → high ≤ n → IsSought xs n high → is_taken place p xs ≡ false
  sought_taken xs n high le met sought = elim (cases_lt n (length xs)) [
    | inl lt ↦ (let x = head xs n lt in taken_at xs n x.0 (sought_rank xs n high le met sought) lt x.1 (ap (λ z. place_order p (place z)) x.1 ∙ sought.rest n x.0 met lt))
    | inr ge ↦ taken_nowhere xs (sym (sought_rank xs n high le met sought) ∙ (let e : n ≡ length xs = omega (arith, le, ge) in e))
  ]
