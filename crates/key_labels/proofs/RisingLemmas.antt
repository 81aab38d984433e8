-- Which labels of a rising list stand before one.
use Rattle.std.proofs.Common.{eq-eqb, ◌≡◌, ◌≢◌, ℕ, zero, suc, ◌<◌, ◌≤◌, Bool, true, false, cond, List, [], ◌∷◌, Option, Some, None, length, get_or, take, drop, not, map, nat_eq, subst, refl, sym, ap, ◌∙◌, inl, inr, arith}
use Rattle.std.specs.List.{filter, find, Contains, position, position_or_len}
use Rattle.std.proofs.lemmas.List.Sums.{position_or_len_is}
use Rattle.std.proofs.lemmas.Bool.{ne_eqb, cases_order, cases_lt, ltb-true, lt-ltb, le-ltb, ltb-false}
use Rattle.std.proofs.lemmas.List.{get_or-map, length-map}
use Rattle.place_order.specs.Labels.{place_in}
use Rattle.place_order.specs.Rising.{IsBeforeAll, IsRising, is_before}

-- what passes is the front of a list, where what passes stands before what doesn't
pub filter_front : {X : Type 0} (p : X → Bool) (xs : List X) (n : ℕ) → n ≤ length xs
    → ((i : ℕ) (d : X) → i < n → p (get_or xs i d) ≡ true) → ((i : ℕ) (d : X) → n ≤ i → i < length xs → p (get_or xs i d) ≡ false)
    → filter p xs ≡ take n xs
filter_front p [] zero le passes fails = refl
filter_front p [] (suc n) le passes fails = refl
filter_front p (x ∷ xs) zero le passes fails =
    let here = fails 0 x (omega arith) (omega arith) in
    rw here (filter_front p xs 0 (omega arith) (λ i d lt. absurd (omega arith)) (λ i d a b. fails (suc i) d (omega arith) (omega arith)))
filter_front p (x ∷ xs) (suc n) le passes fails =
    let here = passes 0 x (omega arith) in
    rw here (ap (λ l. x ∷ l) (filter_front p xs n (omega arith) (λ i d lt. passes (suc i) d (omega arith)) (λ i d a b. fails (suc i) d (omega arith) (omega arith))))

-- and what doesn't is the rest
pub filter_rest : {X : Type 0} (p : X → Bool) (xs : List X) (n : ℕ) → n ≤ length xs
    → ((i : ℕ) (d : X) → i < n → p (get_or xs i d) ≡ true) → ((i : ℕ) (d : X) → n ≤ i → i < length xs → p (get_or xs i d) ≡ false)
    → filter (λ x. not (p x)) xs ≡ drop n xs
filter_rest p [] zero le passes fails = refl
filter_rest p [] (suc n) le passes fails = refl
filter_rest p (x ∷ xs) zero le passes fails =
    let here = fails 0 x (omega arith) (omega arith) in
    rw here (ap (λ l. x ∷ l) (filter_rest p xs 0 (omega arith) (λ i d lt. absurd (omega arith)) (λ i d a b. fails (suc i) d (omega arith) (omega arith))))
filter_rest p (x ∷ xs) (suc n) le passes fails =
    let here = passes 0 x (omega arith) in
    rw here (filter_rest p xs n (omega arith) (λ i d lt. passes (suc i) d (omega arith)) (λ i d a b. fails (suc i) d (omega arith) (omega arith)))

find_nothing : {X : Type 0} (p : X → Bool) (xs : List X) → ((i : ℕ) (d : X) → i < length xs → p (get_or xs i d) ≡ false) → find p xs ≡ None
find_nothing p [] h = refl
find_nothing p (x ∷ xs) h = let here : p x ≡ false = h 0 x (omega arith) in rw here (find_nothing p xs (λ i d lt. h (suc i) d (omega arith)))

pub each_later : (order : List ℕ) (x : ℕ) (ys : List ℕ) (j : ℕ) → IsBeforeAll order x ys → j < length ys → place_in order x < place_in order (get_or ys j 0)
each_later order x [] j all lt = absurd (omega arith)
each_later order x (y ∷ ys) zero all lt = all.0
each_later order x (y ∷ ys) (suc j) all lt = each_later order x ys j all.1 (omega arith)

pub rising_at : (order xs : List ℕ) (i j : ℕ) → IsRising order xs → i < j → j < length xs → place_in order (get_or xs i 0) < place_in order (get_or xs j 0)
rising_at order [] i j r lt within = absurd (omega arith)
rising_at order (x ∷ xs) zero zero r lt within = absurd (omega arith)
rising_at order (x ∷ xs) zero (suc j) r lt within = each_later order x xs j r.1 (omega arith)
rising_at order (x ∷ xs) (suc i) zero r lt within = absurd (omega arith)
rising_at order (x ∷ xs) (suc i) (suc j) r lt within = rising_at order xs i j r.2 (omega arith) (omega arith)

pub known_at : (order xs : List ℕ) (i : ℕ) → IsRising order xs → i < length xs → Contains order (get_or xs i 0)
known_at order [] i r lt = absurd (omega arith)
known_at order (x ∷ xs) zero r lt = r.0
known_at order (x ∷ xs) (suc i) r lt = known_at order xs i r.2 (omega arith)

before_if : (order : List ℕ) (x y : ℕ) (ys : List ℕ) (b : Bool) → (b ≡ true → place_in order x < place_in order y) → IsBeforeAll order x ys → IsBeforeAll order x (cond b (y ∷ ys) ys)
before_if order x y ys true h all = (h refl, all)
before_if order x y ys false h all = all

rising_if : (order : List ℕ) (x : ℕ) (xs : List ℕ) (b : Bool) → Contains order x → IsBeforeAll order x xs → IsRising order xs → IsRising order (cond b (x ∷ xs) xs)
rising_if order x xs true h all r = (h, all, r)
rising_if order x xs false h all r = r

if_map : {X Y : Type 0} (f : X → Y) (x : X) (xs : List X) (b : Bool) → map f (cond b (x ∷ xs) xs) ≡ cond b (f x ∷ map f xs) (map f xs)
if_map f x xs true = refl
if_map f x xs false = refl

module _ {X : Type 0} (label : X → ℕ) (order : List ℕ) (p : X → Bool) where
  pub before_kept : (n : ℕ) (xs : List X) → IsBeforeAll order n (map label xs) → IsBeforeAll order n (map label (filter p xs))
  before_kept n [] all = tt
  before_kept n (x ∷ xs) all = rw (if_map label x (filter p xs) (p x)) (before_if order n (label x) (map label (filter p xs)) (p x) (λ _. all.0) (before_kept n xs all.1))

  pub rising_kept : (xs : List X) → IsRising order (map label xs) → IsRising order (map label (filter p xs))
  rising_kept [] r = tt
  rising_kept (x ∷ xs) r =
      rw (if_map label x (filter p xs) (p x)) (rising_if order (label x) (map label (filter p xs)) (p x) r.0 (before_kept (label x) xs r.1) (rising_kept xs r.2))

-- what stands before, where what stands after it does
before_earlier : (order : List ℕ) (end : Option ℕ) (x y : ℕ) → place_in order x < place_in order y → is_before order end y ≡ true → is_before order end x ≡ true
before_earlier order None x y lt h = refl
before_earlier order (Some e) x y lt h = let b = ltb-true (place_in order y) (place_in order e) h in lt-ltb (place_in order x) (place_in order e) (omega arith)

pub not_before_later : (order : List ℕ) (end : Option ℕ) (x y : ℕ) → place_in order x < place_in order y → is_before order end x ≡ false → is_before order end y ≡ false
not_before_later order None x y lt h = cc
not_before_later order (Some e) x y lt h = let b = ltb-false (place_in order x) (place_in order e) h in le-ltb (place_in order y) (place_in order e) (omega arith)

module _ {X : Type 0} (label : X → ℕ) (order : List ℕ) (xs : List X) (r : IsRising order (map label xs)) where
  label_at : (i : ℕ) (d : X) → i < length xs → get_or (map label xs) i 0 ≡ label (get_or xs i d)
  label_at i d lt = get_or-map label xs i d 0 lt

  pub known : (i : ℕ) (x : X) → i < length xs → x ≡ get_or xs i x → Contains order (label x)
  known i x lt is =
      let P : ℕ → Type 0 = λ n. Contains order n in
      subst P (label_at i x lt ∙ ap label (sym is)) (known_at order (map label xs) i r (let n = length-map xs label in omega arith))

  rises : (i j : ℕ) (d : X) → i < j → j < length xs → place_in order (label (get_or xs i d)) < place_in order (label (get_or xs j d))
  rises i j d lt within =
      let n = length-map xs label in
      let rising = rising_at order (map label xs) i j r lt (omega arith) in
      let e = ap (place_in order) (label_at i d (omega arith)) in
      let f = ap (place_in order) (label_at j d within) in
      omega arith

  pub earlier : (end : Option ℕ) (i j : ℕ) (d : X) → i ≤ j → j < length xs → is_before order end (label (get_or xs j d)) ≡ true → is_before order end (label (get_or xs i d)) ≡ true
  earlier end i j d le within h =
      elim (cases_lt i j) [
        | inl lt ↦ before_earlier order end (label (get_or xs i d)) (label (get_or xs j d)) (rises i j d lt within) h
        | inr ge ↦ (let e : i ≡ j = omega arith in ap (λ n. is_before order end (label (get_or xs n d))) e ∙ h)
      ]

  -- a label that doesn't stand where it would is no one's
  module _ (at lab : ℕ) (front : (i : ℕ) (d : X) → i < at → is_before order (Some lab) (label (get_or xs i d)) ≡ true)
      (rest : (i : ℕ) (d : X) → at ≤ i → i < length xs → is_before order (Some lab) (label (get_or xs i d)) ≡ false)
      (apart : at < length xs → (d : X) → label (get_or xs at d) ≢ lab) where
    differs : (i : ℕ) (d : X) → i < length xs → nat_eq (label (get_or xs i d)) lab ≡ false
    differs i d lt = ne_eqb (label (get_or xs i d)) lab (λ e.
        let same = ap (place_in order) e in
        elim (cases_order i at) [
          | inl is ↦ apart (omega arith) d (ap (λ n. label (get_or xs n d)) (sym is) ∙ e)
          | inr (inl before) ↦ (let b = ltb-true (place_in order (label (get_or xs i d))) (place_in order lab) (front i d before) in omega arith)
          | inr (inr after) ↦ (let r = rises at i d after lt in
              let b = ltb-false (place_in order (label (get_or xs at d))) (place_in order lab) (rest at d (omega arith) (omega arith)) in omega arith)
        ])

    pub absent : find (λ x. nat_eq (label x) lab) xs ≡ None
    absent = find_nothing (λ x. nat_eq (label x) lab) xs differs

    none_from : (d : X) → None ≡ position (λ x. nat_eq (label x) lab) xs
    none_from d =
        let end : position_or_len (λ x. nat_eq (label x) lab) xs ≡ length xs =
        position_or_len_is (λ x. nat_eq (label x) lab) xs (length xs) d (omega arith) (λ k lt. differs k d lt) (λ lt. absurd (omega arith)) in
        rw (end, le-ltb (length xs) (length xs) (omega arith)) refl

  -- a label that stands where it would is found there
  pub somewhere : (at lab : ℕ) → at < length xs → ((i : ℕ) (d : X) → i < at → is_before order (Some lab) (label (get_or xs i d)) ≡ true)
      → (d : X) → label (get_or xs at d) ≡ lab → Some at ≡ position (λ x. nat_eq (label x) lab) xs
  somewhere at lab lt front d here =
      let found : position_or_len (λ x. nat_eq (label x) lab) xs ≡ at =
      position_or_len_is (λ x. nat_eq (label x) lab) xs at d (omega arith)
      (λ k before. ne_eqb (label (get_or xs k d)) lab (λ e.
      let same = ap (place_in order) e in
      let b = ltb-true (place_in order (label (get_or xs k d))) (place_in order lab) (front k d before) in
      omega arith))
      (λ _. eq-eqb (label (get_or xs at d)) lab here) in
      rw (found, lt-ltb at (length xs) lt) refl

pub not_found_in_rising : {X : Type 0} (label : X → ℕ) (order : List ℕ) (xs : List X) → IsRising order (map label xs) → (at lab : ℕ)
    → ((i : ℕ) (d : X) → i < at → is_before order (Some lab) (label (get_or xs i d)) ≡ true)
    → ((i : ℕ) (d : X) → at ≤ i → i < length xs → is_before order (Some lab) (label (get_or xs i d)) ≡ false)
    → (at < length xs → (d : X) → label (get_or xs at d) ≢ lab) → None ≡ position (λ x. nat_eq (label x) lab) xs
not_found_in_rising label order [] r at lab front rest apart = refl
not_found_in_rising label order (x ∷ xs) r at lab front rest apart = none_from label order (x ∷ xs) r at lab front rest apart x

-- the item of a label is where the label is read
pub there : {X : Type 0} (label : X → ℕ) (order : List ℕ) (xs : List X) → IsRising order (map label xs) → (at lab : ℕ) → at < length xs
    → ((d : X) → label (get_or xs at d) ≡ lab) → Some at ≡ position (λ x. nat_eq (label x) lab) xs
there label order [] r at lab lt here = absurd (omega arith)
there label order (x ∷ xs) r at lab lt here =
    somewhere label order (x ∷ xs) r at lab lt
    (λ i d before.
    let before_it = rises label order (x ∷ xs) r i at d before lt in
    let same = ap (place_in order) (here d) in
    lt-ltb (place_in order (label (get_or (x ∷ xs) i d))) (place_in order lab) (omega arith))
    x (here x)
