-- Lists in the order of their items' numbers: what stands where, and what keeps the order.
use Rattle.std.proofs.Common.{◌≡◌, ◌≢◌, ◌∙◌, sym, ap, refl, ℕ, zero, suc, ◌+◌, ◌<◌, ◌≤◌, Bool, true, false, cond, not, List, [], ◌∷◌, length, set, get_or, slice_get, Option, Some, None, IsSome, find, nat_eq, nat_lt, arith, subst, inl, inr}
use Rattle.std.specs.List.{insert, remove, AllWithin}
use Rattle.std.specs.List.Sorted.{IsNonDecreasingBy, IsPartitionedBy}
use Rattle.std.proofs.lemmas.Bool.{cond-false, cond-true, cases_lt, cases_order}
use Rattle.std.proofs.lemmas.Bool.Decides.{nat_tests}
use Rattle.std.proofs.lemmas.List.Sorted.{IsPartitionedBy-ltb}
use Rattle.lang_lists.specs.Numbers.{has_number, RisesFrom, IsRising, without_number, put_item, with_item, IsAt, IsMissing}

-- ---- tests of numbers

above : (m n : ℕ) → m < n → nat_eq n m ≡ false
above m n h = grind (arith, nat_tests)

below : (m n : ℕ) → n < m → nat_eq n m ≡ false
below m n h = grind (arith, nat_tests)

itself : (m n : ℕ) → n ≡ m → nat_eq n m ≡ true
itself m n h = grind (arith, nat_tests)

is_less : (m n : ℕ) → m < n → nat_lt m n ≡ true
is_less m n h = grind (arith, nat_tests)

no_less : (m n : ℕ) → n < m → nat_lt m n ≡ false
no_less m n h = grind (arith, nat_tests)

goes_before : (m n : ℕ) → nat_lt m n ≡ true → m < n
goes_before m n h = grind (arith, nat_tests)

goes_after : (m n : ℕ) → nat_lt m n ≡ false → nat_eq n m ≡ false → n < m
goes_after m n h e = grind (arith, nat_tests)

-- ---- choices

kept : {X : Type 0} (b : Bool) (x y : X) → b ≡ false → cond (not b) x y ≡ x
kept true x y h = cc
kept false x y h = refl

dropped : {X : Type 0} (b : Bool) (x y : X) → b ≡ true → cond (not b) x y ≡ y
dropped true x y h = refl
dropped false x y h = cc

pub none_there : {A X : Type 0} (o : Option X) → o ≡ None → IsSome o → A
none_there None e h = cc
none_there (Some x) e h = cc

module _ {X : Type 0} (number : X → ℕ) where
  -- ---- rising numbers

  pub at_least : (m j : ℕ) (xs : List X) (d : X) → RisesFrom number m xs → j < length xs → m ≤ number (get_or xs j d)
  at_least m j [] d h w = absurd (omega (arith, w))
  at_least m zero (x ∷ xs) d h w = h.0
  at_least m (suc j) (x ∷ xs) d h w = let more = at_least (number x + 1) j xs d h.1 (omega (arith, w)) in omega (arith, h.0, more)

  pub rises : (m i j : ℕ) (xs : List X) (d : X) → RisesFrom number m xs → i < j → j < length xs → number (get_or xs i d) < number (get_or xs j d)
  rises m i j [] d h w l = absurd (omega (arith, l))
  rises m i zero (x ∷ xs) d h w l = absurd (omega (arith, w))
  rises m zero (suc j) (x ∷ xs) d h w l = let more = at_least (number x + 1) j xs d h.1 (omega (arith, l)) in omega (arith, more)
  rises m (suc i) (suc j) (x ∷ xs) d h w l = rises (number x + 1) i j xs d h.1 (omega (arith, w)) (omega (arith, l))

  orders : (xs : List X) → IsRising number xs → IsNonDecreasingBy number xs
  orders xs h i j d w l = elim (cases_lt i j) [
    | inl less ↦ (let e = rises 0 i j xs d h less l in omega (arith, e))
    | inr ge ↦ (let e : i ≡ j = omega arith in let f = ap (λ k. number (get_or xs k d)) e in omega arith)
  ]

  -- items of lower numbers stand before the others
  pub parted : (n : ℕ) (xs : List X) → IsRising number xs → IsPartitionedBy (λ x. nat_lt (number x) n) xs
  parted n xs h = IsPartitionedBy-ltb number xs n (orders xs h)

  -- behind a place without the number all are greater
  pub rest_above : (n at : ℕ) (xs : List X) → IsRising number xs → AllWithin (λ x. n ≤ number x) xs at (length xs)
      → ((d : X) → at < length xs → number (get_or xs at d) ≢ n) → AllWithin (λ x. n < number x) xs at (length xs)
  rest_above n at xs h rest other i d from inside = elim (cases_order n (number (get_or xs at d))) [
    | inl is ↦ absurd (other d (omega arith) (sym is))
    | inr (inl lower) ↦ elim (cases_lt at i) [
      | inl less ↦ (let e = rises 0 at i xs d h less inside in omega (arith, e, lower))
      | inr ge ↦ (let e : at ≡ i = omega arith in let f = ap (λ k. number (get_or xs k d)) e in omega arith)
    ]
    | inr (inr higher) ↦ (let e = rest at d (omega arith) (omega arith) in absurd (omega arith))
  ]

  pub rises_weaker : (m n : ℕ) (xs : List X) → n ≤ m → RisesFrom number m xs → RisesFrom number n xs
  rises_weaker m n [] w h = tt
  rises_weaker m n (x ∷ xs) w h = (omega (arith, w, h.0), h.1)

  -- no number is below the first
  pub none_below : (n m : ℕ) (xs : List X) → RisesFrom number m xs → n < m → find (has_number number n) xs ≡ None
  none_below n m [] h w = refl
  none_below n m (x ∷ xs) h w =
      cond-false (nat_eq (number x) n) (Some x) (find (has_number number n) xs) (above n (number x) (omega (arith, w, h.0)))
      ∙ none_below n (number x + 1) xs h.1 (omega (arith, w, h.0))

  all_stay : (n m : ℕ) (xs : List X) → RisesFrom number m xs → n < m → without_number number n xs ≡ xs
  all_stay n m [] h w = refl
  all_stay n m (x ∷ xs) h w =
      kept (nat_eq (number x) n) (x ∷ without_number number n xs) (without_number number n xs) (above n (number x) (omega (arith, w, h.0)))
      ∙ ap (λ l. x ∷ l) (all_stay n (number x + 1) xs h.1 (omega (arith, w, h.0)))

  rises_if : (b : Bool) (m : ℕ) (x : X) (xs : List X) → m ≤ number x → RisesFrom number (number x + 1) xs → RisesFrom number m (cond (not b) (x ∷ xs) xs)
  rises_if true m x xs w h = rises_weaker (number x + 1) m xs (omega (arith, w)) h
  rises_if false m x xs w h = (w, h)

  pub rises_without : (n m : ℕ) (xs : List X) → RisesFrom number m xs → RisesFrom number m (without_number number n xs)
  rises_without n m [] h = tt
  rises_without n m (x ∷ xs) h = rises_if (nat_eq (number x) n) m x (without_number number n xs) h.0 (rises_without n (number x + 1) xs h.1)

  -- ---- an item more

  put_front : (x : X) (m : ℕ) (xs : List X) → RisesFrom number m xs → number x < m → put_item number x xs ≡ x ∷ xs
  put_front x m [] h w = refl
  put_front x m (y ∷ ys) h w = cond-true (nat_lt (number x) (number y)) (x ∷ y ∷ ys) (y ∷ put_item number x ys) (is_less (number x) (number y) (omega (arith, w, h.0)))

  put_behind : (x y : X) (ys : List X) → number y < number x → with_item number x (y ∷ ys) ≡ y ∷ with_item number x ys
  put_behind x y ys w =
      ap (put_item number x) (kept (nat_eq (number y) (number x)) (y ∷ without_number number (number x) ys) (without_number number (number x) ys) (below (number x) (number y) w))
      ∙ cond-false (nat_lt (number x) (number y)) (x ∷ y ∷ without_number number (number x) ys) (y ∷ put_item number x (without_number number (number x) ys)) (no_less (number x) (number y) w)

  put_before : (x : X) (m : ℕ) (xs : List X) → RisesFrom number m xs → number x < m → with_item number x xs ≡ x ∷ xs
  put_before x m xs h w = ap (put_item number x) (all_stay (number x) m xs h w) ∙ put_front x m xs h w

  put_over : (x y : X) (ys : List X) → RisesFrom number (number y + 1) ys → number y ≡ number x → with_item number x (y ∷ ys) ≡ x ∷ ys
  put_over x y ys h is =
      let w : number x < number y + 1 = omega (arith, is) in
      ap (put_item number x) (dropped (nat_eq (number y) (number x)) (y ∷ without_number number (number x) ys) (without_number number (number x) ys) (itself (number x) (number y) is)
      ∙ all_stay (number x) (number y + 1) ys h w)
      ∙ put_front x (number y + 1) ys h w

  -- ---- what stands at a place

  gap_behind : (n place : ℕ) (y : X) (ys : List X) → IsMissing number n (y ∷ ys) (suc place) → (number y < n) × IsMissing number n ys place
  gap_behind n place y ys at = (
    at.front 0 y (omega arith) (omega arith),
    record {
      within = (let w = at.within in omega (arith, w));
      front = λ k d from to. at.front (suc k) d (omega arith) (omega (arith, to));
      rest = λ k d from to. at.rest (suc k) d (omega (arith, from)) (omega (arith, to));
    },
  )

  at_behind : (n place : ℕ) (y : X) (ys : List X) → IsAt number n (y ∷ ys) (suc place) → (number y < n) × IsAt number n ys place
  at_behind n place y ys at = (
    at.front 0 y (omega arith) (omega arith),
    record {
      within = (let w = at.within in omega (arith, w));
      front = λ k d from to. at.front (suc k) d (omega arith) (omega (arith, to));
      here = at.here;
    },
  )

  -- inserted where no item has its number
  pub put_new : (m place : ℕ) (x : X) (xs : List X) → RisesFrom number m xs → IsMissing number (number x) xs place → insert xs place x ≡ with_item number x xs
  put_new m zero x [] h at = refl
  put_new m (suc place) x [] h at = absurd (let w = at.within in omega (arith, w))
  put_new m zero x (y ∷ ys) h at = sym (put_before x (number y) (y ∷ ys) (omega arith, h.1) (at.rest 0 y (omega arith) (omega arith)))
  put_new m (suc place) x (y ∷ ys) h at =
      let (less, more) = gap_behind (number x) place y ys at in
      ap (λ l. y ∷ l) (put_new (number y + 1) place x ys h.1 more) ∙ sym (put_behind x y ys less)

  -- set in place of the one of its number
  pub put_old : (m place : ℕ) (x : X) (xs : List X) → RisesFrom number m xs → IsAt number (number x) xs place → set xs place x ≡ with_item number x xs
  put_old m place x [] h at = absurd (let w = at.within in omega (arith, w))
  put_old m zero x (y ∷ ys) h at = sym (put_over x y ys h.1 (at.here y))
  put_old m (suc place) x (y ∷ ys) h at =
      let (less, more) = at_behind (number x) place y ys at in
      ap (λ l. y ∷ l) (put_old (number y + 1) place x ys h.1 more) ∙ sym (put_behind x y ys less)

  pub removed : (m n place : ℕ) (xs : List X) → RisesFrom number m xs → IsAt number n xs place → remove xs place ≡ without_number number n xs
  removed m n place [] h at = absurd (let w = at.within in omega (arith, w))
  removed m n zero (y ∷ ys) h at =
      let is = at.here y in
      sym (dropped (nat_eq (number y) n) (y ∷ without_number number n ys) (without_number number n ys) (itself n (number y) is)
      ∙ all_stay n (number y + 1) ys h.1 (omega (arith, is)))
  removed m n (suc place) (y ∷ ys) h at =
      let (less, more) = at_behind n place y ys at in
      ap (λ l. y ∷ l) (removed (number y + 1) n place ys h.1 more)
      ∙ sym (kept (nat_eq (number y) n) (y ∷ without_number number n ys) (without_number number n ys) (below n (number y) less))

  pub found_there : (n place : ℕ) (xs : List X) → IsAt number n xs place → find (has_number number n) xs ≡ slice_get xs place
  found_there n place [] at = absurd (let w = at.within in omega (arith, w))
  found_there n zero (y ∷ ys) at = cond-true (nat_eq (number y) n) (Some y) (find (has_number number n) ys) (itself n (number y) (at.here y))
  found_there n (suc place) (y ∷ ys) at =
      let (less, more) = at_behind n place y ys at in
      cond-false (nat_eq (number y) n) (Some y) (find (has_number number n) ys) (below n (number y) less) ∙ found_there n place ys more

  pub found_nowhere : (m n place : ℕ) (xs : List X) → RisesFrom number m xs → IsMissing number n xs place → find (has_number number n) xs ≡ None
  found_nowhere m n place [] h at = refl
  found_nowhere m n zero (y ∷ ys) h at = none_below n (number y) (y ∷ ys) (omega arith, h.1) (at.rest 0 y (omega arith) (omega arith))
  found_nowhere m n (suc place) (y ∷ ys) h at =
      let (less, more) = gap_behind n place y ys at in
      cond-false (nat_eq (number y) n) (Some y) (find (has_number number n) ys) (below n (number y) less) ∙ found_nowhere (number y + 1) n place ys h.1 more

  pub none_removed : (n : ℕ) (xs : List X) → find (has_number number n) xs ≡ None → without_number number n xs ≡ xs
  none_removed n [] e = refl
  none_removed n (x ∷ xs) e =
      let (other, rest) = not_found (nat_eq (number x) n) x (find (has_number number n) xs) e in
      kept (nat_eq (number x) n) (x ∷ without_number number n xs) (without_number number n xs) other ∙ ap (λ l. x ∷ l) (none_removed n xs rest)
    where
      not_found : (b : Bool) (x : X) (o : Option X) → cond b (Some x) o ≡ None → (b ≡ false) × (o ≡ None)
      not_found true x o e = cc
      not_found false x o e = (refl, e)

  -- ---- numbers still rise

  abbrev Lacks : ℕ → List X → Type 0
  Lacks n [] = Unit {0}
  Lacks n (x ∷ xs) = (nat_eq (number x) n ≡ false) × Lacks n xs

  lacks_if : (b : Bool) (n : ℕ) (x : X) (xs : List X) → nat_eq (number x) n ≡ b → Lacks n xs → Lacks n (cond (not b) (x ∷ xs) xs)
  lacks_if true n x xs e h = h
  lacks_if false n x xs e h = (e, h)

  lacks_without : (n : ℕ) (xs : List X) → Lacks n (without_number number n xs)
  lacks_without n [] = tt
  lacks_without n (x ∷ xs) = lacks_if (nat_eq (number x) n) n x (without_number number n xs) refl (lacks_without n xs)

  put_if : (b : Bool) (m : ℕ) (x y : X) (ys others : List X) → nat_lt (number x) (number y) ≡ b → m ≤ number x → m ≤ number y → RisesFrom number (number y + 1) ys
      → (b ≡ false → RisesFrom number (number y + 1) others) → RisesFrom number m (cond b (x ∷ y ∷ ys) (y ∷ others))
  put_if true m x y ys others e w v h more = let k : number x < number y = goes_before (number x) (number y) e in (w, (omega (arith, k), h))
  put_if false m x y ys others e w v h more = (v, more refl)

  rises_put : (m : ℕ) (x : X) (xs : List X) → RisesFrom number m xs → m ≤ number x → Lacks (number x) xs → RisesFrom number m (put_item number x xs)
  rises_put m x [] h w l = (w, tt)
  rises_put m x (y ∷ ys) h w l =
      put_if (nat_lt (number x) (number y)) m x y ys (put_item number x ys) refl w h.0 h.1
      (λ e. rises_put (number y + 1) x ys h.1 (let k : number y < number x = goes_after (number x) (number y) e l.0 in omega (arith, k)) l.1)

  pub rises_with : (m : ℕ) (x : X) (xs : List X) → m ≤ number x → RisesFrom number m xs → RisesFrom number m (with_item number x xs)
  rises_with m x xs w h = rises_put m x (without_number number (number x) xs) (rises_without (number x) m xs h) w (lacks_without (number x) xs)
