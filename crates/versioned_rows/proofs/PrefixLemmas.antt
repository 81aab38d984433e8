-- The rows under a prefix stand together, from the rank of the prefix on.
use Rattle.std.proofs.Common.{◌≡◌, ℕ, suc, ◌<◌, Bool, true, false, ◌&&◌, cond, List, [], ◌∷◌, Option, Some, None, drop, nat_eq, refl, sym, ap, ◌∙◌, subst, inl, inr, arith, eq-eqb, eqb-true}
use Rattle.std.specs.declared.cmp.Ordering.{Ordering}
use Rattle.std.specs.declared.cmp.Ordering.TheVariants.{Less, Equal, Greater}
use Rattle.std.specs.Ordering.{nat_cmp, ordering_reverse, ordering_then, is_gt, is_eq, MatchOrdering}
use Rattle.std.specs.Cmp.{nat_cmp_is}
use Rattle.std.specs.Cmp.Lexicographic.{same_text as text_is}
use Rattle.std.specs.List.{filter, find}
use Rattle.std.proofs.lemmas.Bool.{and_parts, and_from, cases_Bool}
use Rattle.std.proofs.lemmas.Cmp.{ranked, nat_list_cmp_total}
use Rattle.std.proofs.lemmas.Map.Text.{is_eq-slice_cmp}
use Rattle.lang_base.specs.Texts.{same_text, text_order, begins_with}
use Rattle.lang_core.specs.Places.{Place, place_of, place_order, same_place, IsBelowAll, IsOrdered, by_order, rank}
use Rattle.lang_core.proofs.PlaceLemmas.{total, below_before}
use Rattle.lang_core.proofs.SeekLemmas.{none_above}
use Rattle.lang_core.proofs.ReadLemmas.{same-order, place_is, place_same}
use Rattle.versioned_rows.specs.Scans.{beneath, while}

pub prefix_first : (p k : List ℕ) → begins_with p k ≡ true → is_gt (text_order p k) ≡ false
prefix_first [] [] h = refl
prefix_first [] (y ∷ ys) h = refl
prefix_first (x ∷ xs) [] h = cc
prefix_first (x ∷ xs) (y ∷ ys) h =
    let both = and_parts (nat_eq x y) (begins_with xs ys) h in
    let same : nat_cmp x y ≡ Equal = sym (nat_cmp_is x y Equal (eqb-true x y both.0)) in
    rw same (prefix_first xs ys both.1)

between_by : (x y z : ℕ) (p a b : List ℕ) (o : Ordering) → MatchOrdering o (x < z) (x ≡ z) (z < x) → x ≡ y
    → is_gt (ordering_then o (text_order p a)) ≡ false → ordering_then (nat_cmp z y) (text_order a b) ≡ Less
    → (is_gt (text_order p a) ≡ false → text_order a b ≡ Less → begins_with p a ≡ true) → (nat_eq x z && begins_with p a) ≡ true
between_by x y z p a b Less m e g l more = let above : nat_cmp z y ≡ Greater = sym (nat_cmp_is z y Greater (omega arith)) in let h = rw above at l in cc
between_by x y z p a b Equal m e g l more =
    let same : nat_cmp z y ≡ Equal = sym (nat_cmp_is z y Equal (sym m ∙ e)) in
    let h = rw same at l in
    and_from (nat_eq x z) (begins_with p a) (eq-eqb x z m) (more g h)
between_by x y z p a b Greater m e g l more = cc

-- what stands between a prefix and a text that begins with it begins with it
pub prefix_between : (p a b : List ℕ) → is_gt (text_order p a) ≡ false → text_order a b ≡ Less → begins_with p b ≡ true → begins_with p a ≡ true
prefix_between [] a b g l h = refl
prefix_between (x ∷ p) [] b g l h = cc
prefix_between (x ∷ p) (z ∷ a) [] g l h = cc
prefix_between (x ∷ p) (z ∷ a) (y ∷ b) g l h =
    let both = and_parts (nat_eq x y) (begins_with p b) h in
    between_by x y z p a b (nat_cmp x z) (ranked x z (nat_cmp x z) refl) (eqb-true x y both.0) g l (λ g' l'. prefix_between p a b g' l' both.1)

equal_text : (a b : List ℕ) → same_text a b ≡ true → text_order a b ≡ Equal
equal_text a b h = by (text_order a b) (is_eq-slice_cmp a b ∙ h)
  where
    by : (o : Ordering) → is_eq o ≡ true → o ≡ Equal
    by Less e = cc
    by Equal e = refl
    by Greater e = cc

not_below : (t prefix : List ℕ) (q : Place) → place_order q (place_of t prefix) ≡ Less → beneath t prefix q ≡ false
not_below t prefix q l = elim (cases_Bool (beneath t prefix q)) [
  | inl h ↦ (let both = and_parts (same_text q.table t) (begins_with prefix q.key) h in
      let less : text_order q.key prefix ≡ Less = ap (λ o. ordering_then o (text_order q.key prefix)) (sym (equal_text q.table t both.0)) ∙ l in
      let back : text_order prefix q.key ≡ Greater = nat_list_cmp_total.antisymm prefix q.key ∙ ap ordering_reverse less in
      let first = prefix_first prefix q.key both.1 in
      let never = ap is_gt back in
      cc)
  | inr h ↦ h
]

same_by : (t prefix : List ℕ) (q r : Place) (o : Ordering) → text_order t q.table ≡ o → r.table ≡ t
    → is_gt (ordering_then o (text_order prefix q.key)) ≡ false → ordering_then (text_order q.table r.table) (text_order q.key r.key) ≡ Less
    → begins_with prefix r.key ≡ true → beneath t prefix q ≡ true
same_by t prefix q r Less e f g l h =
    let back : text_order q.table r.table ≡ Greater = ap (text_order q.table) f ∙ nat_list_cmp_total.antisymm q.table t ∙ ap ordering_reverse e in
    let never = rw back at l in cc
same_by t prefix q r Equal e f g l h =
    let back : text_order q.table r.table ≡ Equal = ap (text_order q.table) f ∙ nat_list_cmp_total.antisymm q.table t ∙ ap ordering_reverse e in
    let less = rw back at l in
    let same : same_text q.table t ≡ true = sym (is_eq-slice_cmp q.table t) ∙ ap is_eq (nat_list_cmp_total.antisymm q.table t ∙ ap ordering_reverse e) in
    and_from (same_text q.table t) (begins_with prefix q.key) same (prefix_between prefix q.key r.key g less h)
same_by t prefix q r Greater e f g l h = cc

stays_beneath : (t prefix : List ℕ) (q r : Place) → is_gt (place_order (place_of t prefix) q) ≡ false → place_order q r ≡ Less → beneath t prefix r ≡ true → beneath t prefix q ≡ true
stays_beneath t prefix q r g l h =
    let both = and_parts (same_text r.table t) (begins_with prefix r.key) h in
    same_by t prefix q r (text_order t q.table) refl (text_is r.table t (sym both.0)) g l both.1

module _ {X : Type 0} (place : X → Place) (t prefix : List ℕ) where
  abbrev under : X → Bool
  under x = beneath t prefix (place x)

  none_under : (x : X) (ys : List X) → is_gt (place_order (place_of t prefix) (place x)) ≡ false → under x ≡ false → IsBelowAll place (place x) ys → filter under ys ≡ []
  none_under x [] g no' all = refl
  none_under x (y ∷ ys) g no' all = elim (cases_Bool (under y)) [
    | inl h ↦ (let never = stays_beneath t prefix (place x) (place y) g all.0 h in cc)
    | inr h ↦ rw h (none_under x ys g no' all.1)
  ]

  not_greater : (o : Ordering) → (o ≡ Greater → ⊥) → is_gt o ≡ false
  not_greater Less h = refl
  not_greater Equal h = refl
  not_greater Greater h = absurd (h refl)

  next_from : (x y : X) → is_gt (place_order (place_of t prefix) (place x)) ≡ false → place_order (place x) (place y) ≡ Less → is_gt (place_order (place_of t prefix) (place y)) ≡ false
  next_from x y g l = not_greater (place_order (place_of t prefix) (place y)) (λ h.
      let back : place_order (place y) (place_of t prefix) ≡ Less = total.antisymm (place y) (place_of t prefix) ∙ ap ordering_reverse h in
      let over : place_order (place_of t prefix) (place x) ≡ Greater = total.antisymm (place_of t prefix) (place x) ∙ ap ordering_reverse (total.trans (place x) (place y) (place_of t prefix) l back) in
      let never = ap is_gt over in
      cc)

  from_by : (x : X) (ys : List X) → is_gt (place_order (place_of t prefix) (place x)) ≡ false → IsBelowAll place (place x) ys → filter under ys ≡ while under ys → filter under (x ∷ ys) ≡ while under (x ∷ ys)
  from_by x ys g all more = elim (cases_Bool (under x)) [
    | inl h ↦ rw h (ap (λ l. x ∷ l) more)
    | inr h ↦ rw h (none_under x ys g h all)
  ]

  from_there : (x : X) (ys : List X) → is_gt (place_order (place_of t prefix) (place x)) ≡ false → IsOrdered place (x ∷ ys) → filter under (x ∷ ys) ≡ while under (x ∷ ys)
  from_there x [] g o = from_by x [] g o.0 refl
  from_there x (y ∷ ys) g o = from_by x (y ∷ ys) g o.0 (from_there y ys (next_from x y g o.0.0) o.1)

  together_by : (x : X) (xs : List X) (o : Ordering) → place_order (place_of t prefix) (place x) ≡ o → IsOrdered place (x ∷ xs)
      → filter under xs ≡ while under (drop (rank place (place_of t prefix) xs) xs)
      → filter under (x ∷ xs) ≡ while under (drop (by_order o 0 0 (suc (rank place (place_of t prefix) xs))) (x ∷ xs))
  together_by x xs Less e o more = from_there x xs (ap is_gt e) o
  together_by x xs Equal e o more = from_there x xs (ap is_gt e) o
  together_by x xs Greater e o more =
      let below : under x ≡ false = not_below t prefix (place x) (total.antisymm (place x) (place_of t prefix) ∙ ap ordering_reverse e) in
      rw below more

  -- the rows under a prefix
  pub under_together : (xs : List X) → IsOrdered place xs → filter under xs ≡ while under (drop (rank place (place_of t prefix) xs) xs)
  under_together [] o = refl
  under_together (x ∷ xs) o = together_by x xs (place_order (place_of t prefix) (place x)) refl o (under_together xs o.1)

-- two lists in order that have the same at each place are equal
module _ {X : Type 0} (place : X → Place) where
  abbrev at : Place → List X → Option X
  at p xs = find (λ x. same_place (place x) p) xs

  not_in : (p : Place) (xs : List X) → IsBelowAll place p xs → at p xs ≡ None
  not_in p xs all = none_above place p xs all

  first_is : (x : X) (xs : List X) → at (place x) (x ∷ xs) ≡ Some x
  first_is x xs = let same = place_same (place x) (place x) refl in rw same refl

  same_first : (x y : X) (xs ys : List X) (o : Ordering) → place_order (place x) (place y) ≡ o → IsOrdered place (x ∷ xs) → IsOrdered place (y ∷ ys)
      → ((p : Place) → at p (x ∷ xs) ≡ at p (y ∷ ys)) → x ≡ y
  same_first x y xs ys Less e o q h =
      let never = sym (first_is x xs) ∙ h (place x) ∙ not_in (place x) (y ∷ ys) (e, below_before place (place x) (place y) ys e q.0) in cc
  same_first x y xs ys Greater e o q h =
      let back : place_order (place y) (place x) ≡ Less = total.antisymm (place y) (place x) ∙ ap ordering_reverse e in
      let never = sym (first_is y ys) ∙ sym (h (place y)) ∙ not_in (place y) (x ∷ xs) (back, below_before place (place y) (place x) xs back o.0) in cc
  same_first x y xs ys Equal e o q h =
      let same : same_place (place y) (place x) ≡ true = same-order (place y) (place x) ∙ ap is_eq (total.antisymm (place y) (place x) ∙ ap ordering_reverse e) in
      let there : at (place x) (y ∷ ys) ≡ Some y = rw same refl in
      let both = sym (first_is x xs) ∙ h (place x) ∙ there in cc

  tail_at : (x : X) (xs ys : List X) (p : Place) (b : Bool) → same_place (place x) p ≡ b → IsBelowAll place (place x) xs → IsBelowAll place (place x) ys
      → cond b (Some x) (at p xs) ≡ cond b (Some x) (at p ys) → at p xs ≡ at p ys
  tail_at x xs ys p true e all also h =
      let same : place x ≡ p = place_is (place x) p e in
      ap (λ q. at q xs) (sym same) ∙ not_in (place x) xs all ∙ sym (not_in (place x) ys also) ∙ ap (λ q. at q ys) same
  tail_at x xs ys p false e all also h = h

  pub same_ordered : (xs ys : List X) → IsOrdered place xs → IsOrdered place ys → ((p : Place) → at p xs ≡ at p ys) → xs ≡ ys
  same_ordered [] [] o q h = refl
  same_ordered [] (y ∷ ys) o q h = let never = h (place y) ∙ first_is y ys in cc
  same_ordered (x ∷ xs) [] o q h = let never = sym (h (place x)) ∙ first_is x xs in cc
  same_ordered (x ∷ xs) (y ∷ ys) o q h =
      let first : x ≡ y = same_first x y xs ys (place_order (place x) (place y)) refl o q h in
      let P : X → Type 0 = λ z. IsBelowAll place (place z) ys in
      let R : X → Type 0 = λ z. (p : Place) → at p (x ∷ xs) ≡ at p (z ∷ ys) in
      ap (λ l. x ∷ l) (same_ordered xs ys o.1 q.1 (λ p. tail_at x xs ys p (same_place (place x) p) refl o.0 (subst P (sym first) q.0) (subst R (sym first) h p))) ∙ ap (λ z. z ∷ ys) first
