-- Labels rise with one more that is put at its place.
use Rattle.std.proofs.Common.{◌≡◌, ◌≢◌, ℕ, zero, suc, ◌+◌, ◌<◌, Bool, true, false, cond, List, [], ◌∷◌, ◌++◌, Some, length, get_or, not, map, nat_eq, subst, refl, sym, ap, ◌∙◌, arith, eq-eqb, eqb-true}
use Rattle.std.specs.List.{filter, Contains, AllByRecursion}
use Rattle.std.proofs.lemmas.Bool.{ltb-true, ltb-false}
use Rattle.std.proofs.lemmas.List.{get_or_default, map-append}
use Rattle.place_order.specs.Labels.{place_in}
use Rattle.place_order.specs.Rising.{IsBeforeAll, IsRising, is_before}
use Rattle.key_labels.specs.Labels.{is_other}
use Rattle.versioned_rows.specs.Places.{label_of, with_place}
use Rattle.versioned_rows.specs.declared.places.PlaceWrites.{PlaceWrites}
use Rattle.key_labels.proofs.RisingLemmas.{before_kept, not_before_later}

stands_by : (z x : ℕ) (zs : List ℕ) (b : Bool) → nat_eq z x ≡ b → (b ≡ false → get_or zs (place_in zs x) 0 ≡ x) → get_or (z ∷ zs) (cond (not b) (1 + place_in zs x) 0) 0 ≡ x
stands_by z x zs true e more = eqb-true z x e
stands_by z x zs false e more = let n : 1 + place_in zs x ≡ suc (place_in zs x) = omega arith in ap (λ m. get_or (z ∷ zs) m 0) n ∙ more refl

stands_at : (order : List ℕ) (x i : ℕ) → i < length order → get_or order i 0 ≡ x → get_or order (place_in order x) 0 ≡ x
stands_at [] x i lt is = absurd (omega arith)
stands_at (z ∷ zs) x zero lt is = stands_by z x zs (nat_eq z x) refl (λ e. let same : nat_eq z x ≡ true = eq-eqb z x is in cc)
stands_at (z ∷ zs) x (suc i) lt is = stands_by z x zs (nat_eq z x) refl (λ _. stands_at zs x i (omega arith) is)

stands : (order : List ℕ) (x : ℕ) → Contains order x → get_or order (place_in order x) 0 ≡ x
stands order x there = stands_at order x there.0 there.1 (get_or_default order there.0 0 x there.1 ∙ there.2)

-- no two labels stand at one place
one_place : (order : List ℕ) (x y : ℕ) → Contains order x → Contains order y → place_in order x ≡ place_in order y → x ≡ y
one_place order x y has_x has_y e = sym (stands order x has_x) ∙ ap (λ n. get_or order n 0) e ∙ stands order y has_y

before_append : (order : List ℕ) (n : ℕ) (xs ys : List ℕ) → IsBeforeAll order n xs → IsBeforeAll order n ys → IsBeforeAll order n (xs ++ ys)
before_append order n [] ys all also = also
before_append order n (x ∷ xs) ys all also = (all.0, before_append order n xs ys all.1 also)

before_more : (order : List ℕ) (x y : ℕ) (zs : List ℕ) → place_in order x < place_in order y → IsBeforeAll order y zs → IsBeforeAll order x zs
before_more order x y [] lt all = tt
before_more order x y (z ∷ zs) lt all = let more = all.0 in (omega arith, before_more order x y zs lt all.1)

others_differ : (x y : ℕ) → is_other x y ≡ true → x ≢ y
others_differ x y h e = let same : nat_eq y x ≡ true = eq-eqb y x (sym e) in let never = ap not same in cc

module _ (order : List ℕ) (p : PlaceWrites) (here : Contains order p.label) where
  abbrev front : PlaceWrites → Bool
  front q = is_before order (Some (label_of p)) (label_of q)

  abbrev rest : PlaceWrites → Bool
  rest q = not (is_before order (Some (label_of p)) (label_of q))

  later_none : (x : ℕ) (qs : List PlaceWrites) → is_before order (Some p.label) x ≡ false → IsBeforeAll order x (map label_of qs) → (filter front qs ≡ []) × (filter rest qs ≡ qs)
  later_none x [] h all = (refl, refl)
  later_none x (q ∷ qs) h all =
      let this = not_before_later order (Some p.label) x q.label all.0 h in
      let more = later_none x qs h all.1 in
      (rw this more.0, rw this (ap (λ l. q ∷ l) more.1))

  put_by : (q : PlaceWrites) (qs : List PlaceWrites) (b : Bool) → is_before order (Some p.label) q.label ≡ b → IsRising order (map label_of (q ∷ qs)) → is_other p.label q.label ≡ true
      → IsRising order (map label_of (with_place order p qs))
      → IsRising order (map label_of (cond b (q ∷ filter front qs) (filter front qs) ++ p ∷ cond (not b) (q ∷ filter rest qs) (filter rest qs)))
  put_by q qs true e r other more =
      let lt = ltb-true (place_in order q.label) (place_in order p.label) e in
      let all : IsBeforeAll order q.label (map label_of (filter front qs ++ p ∷ filter rest qs)) =
      rw (map-append label_of (filter front qs) (p ∷ filter rest qs))
      (before_append order q.label (map label_of (filter front qs)) (p.label ∷ map label_of (filter rest qs)) (before_kept label_of order front q.label qs r.1) (lt, before_kept label_of order rest q.label qs r.1)) in
      (r.0, all, more)
  put_by q qs false e r other more =
      let le = ltb-false (place_in order q.label) (place_in order p.label) e in
      let apart : place_in order p.label ≢ place_in order q.label = λ same. others_differ p.label q.label other (one_place order p.label q.label here r.0 same) in
      let lt : place_in order p.label < place_in order q.label = omega arith in
      let none = later_none q.label qs e r.1 in
      let P : List PlaceWrites → Type 0 = λ l. IsRising order (map label_of (l ++ p ∷ q ∷ filter rest qs)) in
      let Q : List PlaceWrites → Type 0 = λ l. IsRising order (map label_of (p ∷ q ∷ l)) in
      subst P (sym none.0) (subst Q (sym none.1) (here, (lt, before_more order p.label q.label (map label_of qs) lt r.1), r))

  pub rising_put : (qs : List PlaceWrites) → IsRising order (map label_of qs) → AllByRecursion (λ q. is_other p.label (label_of q) ≡ true) qs → IsRising order (map label_of (with_place order p qs))
  rising_put [] r others = (here, tt, tt)
  rising_put (q ∷ qs) r others = put_by q qs (is_before order (Some p.label) q.label) refl r others.0 (rising_put qs r.2 others.1)
