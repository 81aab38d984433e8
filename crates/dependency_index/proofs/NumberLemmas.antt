-- Numbers that rise: what stands below one and above it, and what one more comes to.
use Rattle.std.proofs.Common.{◌≡◌, ◌≢◌, ℕ, zero, suc, ◌+◌, ◌<◌, ◌≤◌, Bool, true, false, cond, ◌&&◌, ◌||◌, List, [], ◌∷◌, ◌++◌, nat_eq, nat_lt, length, get_or, take, drop, map, refl, sym, ap, ◌∙◌, subst, inl, inr, arith, length-append, eq-eqb, eqb-true}
use Rattle.std.specs.List.{filter, list_any, AllByRecursion}
use Rattle.std.proofs.lemmas.Bool.{cases_order, cases_lt, lt-ltb, le-ltb, ltb-true, ne_eqb}
use Rattle.std.proofs.lemmas.List.{get_or-map, length-map, map-id}
use Rattle.std.proofs.lemmas.List.Elements.{filter-append}
use Rattle.std.proofs.lemmas.List.Folds.{list_any-append}
use Rattle.lang_core.specs.Places.{past}
use Rattle.key_labels.specs.Labels.{is_other}
use Rattle.dependency_index.specs.Numbers.{Rises, with_number, with_numbers}
use Rattle.key_labels.proofs.ListLemmas.{all_if}
use Rattle.std.proofs.Math.Bool.{or-false}
use Rattle.lang_lists.proofs.RoomLemmas.{not_less}

-- ---- filters

absorb_by : {X : Type 0} (p q : X → Bool) (x : X) (xs : List X) (b c : Bool) → p x ≡ b → q x ≡ c → (b ≡ true → c ≡ true) → filter p (filter q xs) ≡ filter p xs
    → filter p (cond c (x ∷ filter q xs) (filter q xs)) ≡ cond b (x ∷ filter p xs) (filter p xs)
absorb_by p q x xs true true e f h more = rw e (ap (λ l. x ∷ l) more)
absorb_by p q x xs true false e f h more = let no = h refl in cc
absorb_by p q x xs false true e f h more = rw e more
absorb_by p q x xs false false e f h more = more

-- what passes the one passes the other
pub absorb : {X : Type 0} (p q : X → Bool) → ((x : X) → p x ≡ true → q x ≡ true) → (xs : List X) → filter p (filter q xs) ≡ filter p xs
absorb p q h [] = refl
absorb p q h (x ∷ xs) = absorb_by p q x xs (p x) (q x) refl refl (h x) (absorb p q h xs)

never_by : {X : Type 0} (p q : X → Bool) (x : X) (xs : List X) (c : Bool) → q x ≡ c → (c ≡ true → p x ≡ false) → filter p (filter q xs) ≡ [] → filter p (cond c (x ∷ filter q xs) (filter q xs)) ≡ []
never_by p q x xs true f h more = let no : p x ≡ false = h refl in rw no more
never_by p q x xs false f h more = more

pub never_both : {X : Type 0} (p q : X → Bool) → ((x : X) → q x ≡ true → p x ≡ false) → (xs : List X) → filter p (filter q xs) ≡ []
never_both p q h [] = refl
never_both p q h (x ∷ xs) = never_by p q x xs (q x) refl (h x) (never_both p q h xs)

-- what passes is the rest of a list
pub filter_tail : {X : Type 0} (p : X → Bool) (xs : List X) (n : ℕ) → n ≤ length xs
    → ((i : ℕ) (d : X) → i < n → p (get_or xs i d) ≡ false) → ((i : ℕ) (d : X) → n ≤ i → i < length xs → p (get_or xs i d) ≡ true)
    → filter p xs ≡ drop n xs
filter_tail p [] zero le fails passes = refl
filter_tail p [] (suc n) le fails passes = refl
filter_tail p (x ∷ xs) zero le fails passes =
    let here = passes 0 x (omega arith) (omega arith) in
    rw here (ap (λ l. x ∷ l) (filter_tail p xs 0 (omega arith) (λ i d lt. absurd (omega arith)) (λ i d a b. passes (suc i) d (omega arith) (omega arith))))
filter_tail p (x ∷ xs) (suc n) le fails passes =
    let here = fails 0 x (omega arith) in
    rw here (filter_tail p xs n (omega arith) (λ i d lt. fails (suc i) d (omega arith)) (λ i d a b. passes (suc i) d (omega arith) (omega arith)))

-- ---- parts

pub take-drop : {X : Type 0} (n : ℕ) (xs : List X) → take n xs ++ drop n xs ≡ xs
take-drop zero [] = refl
take-drop zero (x ∷ xs) = refl
take-drop (suc n) [] = refl
take-drop (suc n) (x ∷ xs) = ap (λ l. x ∷ l) (take-drop n xs)

pub parted : {X : Type 0} (at : ℕ) (own : X) (xs : List X) → at < length xs → own ≡ get_or xs at own → take at xs ++ own ∷ drop (suc at) xs ≡ xs
parted at own [] lt is = absurd (omega arith)
parted zero own (x ∷ xs) lt is = ap (λ y. y ∷ xs) is
parted (suc at) own (x ∷ xs) lt is = ap (λ l. x ∷ l) (parted at own xs (omega arith) is)

-- ---- rising

each_above : (x : ℕ) (ys : List ℕ) (j : ℕ) → AllByRecursion (λ y. x < y) ys → j < length ys → x < get_or ys j 0
each_above x [] j all lt = absurd (omega arith)
each_above x (y ∷ ys) zero all lt = all.0
each_above x (y ∷ ys) (suc j) all lt = each_above x ys j all.1 (omega arith)

rises_at : (xs : List ℕ) (i j : ℕ) → Rises xs → i < j → j < length xs → get_or xs i 0 < get_or xs j 0
rises_at [] i j r lt within = absurd (omega arith)
rises_at (x ∷ xs) zero zero r lt within = absurd (omega arith)
rises_at (x ∷ xs) zero (suc j) r lt within = each_above x xs j r.0 (omega arith)
rises_at (x ∷ xs) (suc i) zero r lt within = absurd (omega arith)
rises_at (x ∷ xs) (suc i) (suc j) r lt within = rises_at xs i j r.1 (omega arith) (omega arith)

module _ {X : Type 0} (label : X → ℕ) (xs : List X) (r : Rises (map label xs)) where
  label_at : (i : ℕ) (d : X) → i < length xs → get_or (map label xs) i 0 ≡ label (get_or xs i d)
  label_at i d lt = get_or-map label xs i d 0 lt

  pub above : (i j : ℕ) (d : X) → i < j → j < length xs → label (get_or xs i d) < label (get_or xs j d)
  above i j d lt within =
      let n = length-map xs label in
      let rising = rises_at (map label xs) i j r lt (omega arith) in
      let e = label_at i d (omega arith) in
      let f = label_at j d within in
      omega arith

  pub not_below : (i j : ℕ) (d : X) → i ≤ j → j < length xs → label (get_or xs i d) ≤ label (get_or xs j d)
  not_below i j d le within =
      elim (cases_lt i j) [
        | inl lt ↦ (let a = above i j d lt within in omega arith)
        | inr ge ↦ (let e : i ≡ j = omega arith in let f = ap (λ n. label (get_or xs n d)) e in omega arith)
      ]

  -- what stands on both sides of the one with a label
  pub lower : (at : ℕ) → at < length xs → (l : ℕ) → ((d : X) → label (get_or xs at d) ≡ l) → (i : ℕ) (d : X) → i < at → label (get_or xs i d) < l
  lower at within l here i d lt = let a = above i at d lt within in let e = here d in omega arith

  pub higher : (at : ℕ) → at < length xs → (l : ℕ) → ((d : X) → label (get_or xs at d) ≡ l) → (i : ℕ) (d : X) → at ≤ i → i < length xs → l ≤ label (get_or xs i d)
  higher at within l here i d from inside = let a = not_below at i d from inside in let e = here d in omega arith

  -- the rest of the list, behind a place where the label stands or would stand
  pub rest_above : (l at : ℕ) (taken : Bool) → at ≤ length xs
      → ((i : ℕ) (d : X) → i < at → label (get_or xs i d) < l) → ((i : ℕ) (d : X) → at ≤ i → i < length xs → l ≤ label (get_or xs i d))
      → (taken ≡ true → at < length xs) → (taken ≡ true → (d : X) → label (get_or xs at d) ≡ l) → (taken ≡ false → (d : X) → at < length xs → label (get_or xs at d) ≢ l)
      → filter (λ x. nat_lt l (label x)) xs ≡ drop (past taken at) xs
  rest_above l at true le front rest there here other =
      filter_tail (λ x. nat_lt l (label x)) xs (suc at) (let a = there refl in omega arith)
      (λ i d lt. le-ltb l (label (get_or xs i d)) (elim (cases_lt i at) [
        | inl less ↦ (let a = front i d less in omega arith)
        | inr ge ↦ (let e : i ≡ at = omega arith in let f = ap (λ n. label (get_or xs n d)) e in let g = here refl d in omega arith)
      ]))
      (λ i d from inside. lt-ltb l (label (get_or xs i d)) (let a = above at i d (omega arith) inside in let g = here refl d in omega arith))
  rest_above l at false le front rest there here other =
      filter_tail (λ x. nat_lt l (label x)) xs at le
      (λ i d lt. le-ltb l (label (get_or xs i d)) (let a = front i d lt in omega arith))
      (λ i d from inside. lt-ltb l (label (get_or xs i d)) (let a = not_below at i d from inside in let b = rest at d (omega arith) (omega arith) in let c = other refl d (omega arith) in
      elim (cases_order l (label (get_or xs i d))) [
        | inl e ↦ absurd (c (omega arith))
        | inr (inl lt) ↦ lt
        | inr (inr gt) ↦ absurd (omega arith)
      ]))

all_kept : (n : ℕ) (p : ℕ → Bool) (xs : List ℕ) → AllByRecursion (λ y. n < y) xs → AllByRecursion (λ y. n < y) (filter p xs)
all_kept n p [] all = tt
all_kept n p (x ∷ xs) all = all_if (λ y. n < y) x (filter p xs) (p x) (λ e. all.0) (all_kept n p xs all.1)

pub rises_if : (x : ℕ) (xs : List ℕ) (b : Bool) → AllByRecursion (λ y. x < y) xs → Rises xs → Rises (cond b (x ∷ xs) xs)
rises_if x xs true all r = (all, r)
rises_if x xs false all r = r

pub rises_kept : (p : ℕ → Bool) (xs : List ℕ) → Rises xs → Rises (filter p xs)
rises_kept p [] r = tt
rises_kept p (x ∷ xs) r = rises_if x (filter p xs) (p x) (all_kept x p xs r.0) (rises_kept p xs r.1)

all_join : (n x : ℕ) (xs ys : List ℕ) → AllByRecursion (λ y. x < y) xs → x < n → AllByRecursion (λ y. n < y) ys → AllByRecursion (λ y. x < y) (xs ++ n ∷ ys)
all_join n x [] ys all lt rest = (lt, later ys rest)
  where
    later : (zs : List ℕ) → AllByRecursion (λ y. n < y) zs → AllByRecursion (λ y. x < y) zs
    later [] above = tt
    later (z ∷ zs) above = (let a = above.0 in omega arith, later zs above.1)
all_join n x (z ∷ zs) ys all lt rest = (all.0, all_join n x zs ys all.1 lt rest)

above_all : (n : ℕ) (zs : List ℕ) → AllByRecursion (λ y. nat_lt n y ≡ true) zs → AllByRecursion (λ y. n < y) zs
above_all n [] all = tt
above_all n (z ∷ zs) all = (ltb-true n z all.0, above_all n zs all.1)

rises_join : (n : ℕ) (xs ys : List ℕ) → Rises xs → AllByRecursion (λ x. nat_lt x n ≡ true) xs → Rises ys → AllByRecursion (λ y. nat_lt n y ≡ true) ys → Rises (xs ++ n ∷ ys)
rises_join n [] ys r below q rest = (above_all n ys rest, q)
rises_join n (x ∷ xs) ys r below q rest = (all_join n x xs ys r.0 (ltb-true x n below.0) (above_all n ys rest), rises_join n xs ys r.1 below.1 q rest)

all_pass : (p : ℕ → Bool) (xs : List ℕ) → AllByRecursion (λ x. p x ≡ true) (filter p xs)
all_pass p [] = tt
all_pass p (x ∷ xs) = all_if (λ x. p x ≡ true) x (filter p xs) (p x) (λ e. e) (all_pass p xs)

pub rises_put : (n : ℕ) (xs : List ℕ) → Rises xs → Rises (with_number n xs)
rises_put n xs r =
    rises_join n (filter (λ x. nat_lt x n) xs) (filter (λ x. nat_lt n x) xs) (rises_kept (λ x. nat_lt x n) xs r) (all_pass (λ x. nat_lt x n) xs)
    (rises_kept (λ x. nat_lt n x) xs r) (all_pass (λ x. nat_lt n x) xs)

pub rises_puts : (ns xs : List ℕ) → Rises xs → Rises (with_numbers ns xs)
rises_puts [] xs r = r
rises_puts (n ∷ ns) xs r = rises_puts ns (with_number n xs) (rises_put n xs r)

-- ---- one number more

apart_lengths : (n x a b l : ℕ) → a + b ≤ l → cond (nat_lt x n) (suc a) a + cond (nat_lt n x) (suc b) b ≤ suc l
apart_lengths n x a b l h =
    elim (cases_order x n) [
      | inl e ↦ (let f : nat_lt x n ≡ false = le-ltb x n (omega arith) in let g : nat_lt n x ≡ false = le-ltb n x (omega arith) in rw (f, g) (omega arith))
      | inr (inl lt) ↦ (let f : nat_lt x n ≡ true = lt-ltb x n lt in let g : nat_lt n x ≡ false = le-ltb n x (omega arith) in rw (f, g) (omega arith))
      | inr (inr gt) ↦ (let f : nat_lt x n ≡ false = le-ltb x n (omega arith) in let g : nat_lt n x ≡ true = lt-ltb n x gt in rw (f, g) (omega arith))
    ]

length_if : (x : ℕ) (xs : List ℕ) (b : Bool) → length (cond b (x ∷ xs) xs) ≡ cond b (suc (length xs)) (length xs)
length_if x xs true = refl
length_if x xs false = refl

two_lengths : (n : ℕ) (xs : List ℕ) → length (filter (λ x. nat_lt x n) xs) + length (filter (λ x. nat_lt n x) xs) ≤ length xs
two_lengths n [] = omega arith
two_lengths n (x ∷ xs) =
    let e = length_if x (filter (λ x. nat_lt x n) xs) (nat_lt x n) in
    let f = length_if x (filter (λ x. nat_lt n x) xs) (nat_lt n x) in
    let h = apart_lengths n x (length (filter (λ x. nat_lt x n) xs)) (length (filter (λ x. nat_lt n x) xs)) (length xs) (two_lengths n xs) in
    rw (e, f) h

pub one_longer : (n : ℕ) (xs : List ℕ) → length (with_number n xs) ≤ length xs + 1
one_longer n xs =
    let e = length-append (filter (λ x. nat_lt x n) xs) (n ∷ filter (λ x. nat_lt n x) xs) in
    let h = two_lengths n xs in
    omega arith

pub not_empty : (n : ℕ) (xs : List ℕ) → 1 ≤ length (with_number n xs)
not_empty n xs =
    let e = length-append (filter (λ x. nat_lt x n) xs) (n ∷ filter (λ x. nat_lt n x) xs) in
    omega arith

pub join_ends : {X : Type 0} (xs ys zs ws : List X) (x : X) → xs ≡ zs → ys ≡ ws → xs ++ x ∷ ys ≡ zs ++ x ∷ ws
join_ends xs ys zs ws x e f = ap (λ l. l ++ x ∷ ys) e ∙ ap (λ l. zs ++ x ∷ l) f

-- it is there already
pub put_twice : (n : ℕ) (xs : List ℕ) → with_number n (with_number n xs) ≡ with_number n xs
put_twice n xs =
    let lt : ℕ → Bool = λ x. nat_lt x n in
    let gt : ℕ → Bool = λ x. nat_lt n x in
    let no = not_less n in
    let below : filter lt (with_number n xs) ≡ filter lt xs =
    filter-append lt (filter lt xs) (n ∷ filter gt xs) ∙ ap (λ l. filter lt (filter lt xs) ++ l) (head_fails lt n (filter gt xs) no)
    ∙ ap (λ l. filter lt (filter lt xs) ++ l) (never_both lt gt (λ x h. le-ltb x n (let a = ltb-true n x h in omega arith)) xs)
    ∙ append_none (filter lt (filter lt xs)) ∙ absorb lt lt (λ x h. h) xs in
    let above_it : filter gt (with_number n xs) ≡ filter gt xs =
    filter-append gt (filter lt xs) (n ∷ filter gt xs) ∙ ap (λ l. filter gt (filter lt xs) ++ l) (head_fails gt n (filter gt xs) no)
    ∙ ap (λ l. l ++ filter gt (filter gt xs)) (never_both gt lt (λ x h. le-ltb n x (let a = ltb-true x n h in omega arith)) xs)
    ∙ absorb gt gt (λ x h. h) xs in
    join_ends (filter lt (with_number n xs)) (filter gt (with_number n xs)) (filter lt xs) (filter gt xs) n below above_it
  where
    head_fails : (p : ℕ → Bool) (x : ℕ) (xs : List ℕ) → p x ≡ false → filter p (x ∷ xs) ≡ filter p xs
    head_fails p x xs h = rw h refl

    append_none : (xs : List ℕ) → xs ++ [] ≡ xs
    append_none [] = refl
    append_none (x ∷ xs) = ap (λ l. x ∷ l) (append_none xs)

module _ {X : Type 0} (number : X → ℕ) (n : ℕ) where
  none_below : (x : ℕ) (xs : List X) → n < x → AllByRecursion (λ y. x < y) (map number xs) → filter (λ y. nat_lt (number y) n) xs ≡ []
  none_below x [] lt all = refl
  none_below x (y ∷ ys) lt all =
      let a = all.0 in
      let e : nat_lt (number y) n ≡ false = le-ltb (number y) n (omega arith) in
      rw e (none_below x ys lt all.1)

  -- all others are those below and those above
  pub others_by : (xs : List X) → Rises (map number xs) → filter (λ x. is_other n (number x)) xs ≡ filter (λ x. nat_lt (number x) n) xs ++ filter (λ x. nat_lt n (number x)) xs
  others_by [] r = refl
  others_by (x ∷ xs) r =
      let m = number x in
      elim (cases_order m n) [
        | inl e ↦ (let f : nat_lt m n ≡ false = le-ltb m n (omega arith) in let g : nat_lt n m ≡ false = le-ltb n m (omega arith) in let h : nat_eq m n ≡ true = eq-eqb m n e in rw (f, g, h) (others_by xs r.1))
        | inr (inl lt) ↦ (let f : nat_lt m n ≡ true = lt-ltb m n lt in let g : nat_lt n m ≡ false = le-ltb n m (omega arith) in let h : nat_eq m n ≡ false = ne_eqb m n (λ e. omega arith) in rw (f, g, h) (ap (λ l. x ∷ l) (others_by xs r.1)))
        | inr (inr gt) ↦ (let f : nat_lt m n ≡ false = le-ltb m n (omega arith) in let g : nat_lt n m ≡ true = lt-ltb n m gt in let h : nat_eq m n ≡ false = ne_eqb m n (λ e. omega arith) in
            let none = none_below m xs gt r.0 in
            rw (f, g, h) (ap (λ l. x ∷ l) (others_by xs r.1 ∙ ap (λ l. l ++ filter (λ x. nat_lt n (number x)) xs) none) ∙ sym (ap (λ l. l ++ x ∷ filter (λ x. nat_lt n (number x)) xs) none)))
      ]

pub others : (n : ℕ) (xs : List ℕ) → Rises xs → filter (is_other n) xs ≡ filter (λ x. nat_lt x n) xs ++ filter (λ x. nat_lt n x) xs
others n xs r = let P : List ℕ → Type 0 = λ l. Rises l in others_by (λ x. x) n xs (subst P (sym (map-id xs)) r)

other_below : (n x : ℕ) → nat_lt x n ≡ true → is_other n x ≡ true
other_below n x h = let a = ltb-true x n h in let e : nat_eq x n ≡ false = ne_eqb x n (λ e. omega arith) in rw e refl

other_above : (n x : ℕ) → nat_lt n x ≡ true → is_other n x ≡ true
other_above n x h = let a = ltb-true n x h in let e : nat_eq x n ≡ false = ne_eqb x n (λ e. omega arith) in rw e refl

-- put in place of itself
pub put_anew : (n : ℕ) (xs : List ℕ) → with_number n (filter (is_other n) xs) ≡ with_number n xs
put_anew n xs =
    join_ends (filter (λ x. nat_lt x n) (filter (is_other n) xs)) (filter (λ x. nat_lt n x) (filter (is_other n) xs)) (filter (λ x. nat_lt x n) xs) (filter (λ x. nat_lt n x) xs) n
    (absorb (λ x. nat_lt x n) (is_other n) (other_below n) xs) (absorb (λ x. nat_lt n x) (is_other n) (other_above n) xs)

-- ---- rising lists of the same numbers are one

abbrev pub member : ℕ → List ℕ → Bool
member z xs = list_any (nat_eq z) xs

not_member : (z x : ℕ) (ys : List ℕ) → z ≤ x → AllByRecursion (λ y. x < y) ys → member z ys ≡ false
not_member z x [] le all = refl
not_member z x (y ∷ ys) le all =
    let a = all.0 in
    let e : nat_eq z y ≡ false = ne_eqb z y (λ e. omega arith) in
    rw e (not_member z x ys le all.1)

itself : (x : ℕ) (xs : List ℕ) → member x (x ∷ xs) ≡ true
itself x xs = let e : nat_eq x x ≡ true = eq-eqb x x refl in rw e refl

behind : (z x : ℕ) (xs ys : List ℕ) → AllByRecursion (λ y. x < y) xs → AllByRecursion (λ y. x < y) ys → member z (x ∷ xs) ≡ member z (x ∷ ys) → member z xs ≡ member z ys
behind z x xs ys all every h = by (nat_eq z x) refl h
  where
    by : (b : Bool) → nat_eq z x ≡ b → (b || member z xs) ≡ (b || member z ys) → member z xs ≡ member z ys
    by true e h = let same = eqb-true z x e in not_member z x xs (omega arith) all ∙ sym (not_member z x ys (omega arith) every)
    by false e h = h

smaller : (x y : ℕ) (ys : List ℕ) → x < y → AllByRecursion (λ z. y < z) ys → member x (y ∷ ys) ≡ false
smaller x y ys lt all = let e : nat_eq x y ≡ false = ne_eqb x y (λ e. omega arith) in rw e (not_member x y ys (omega arith) all)

pub same_members : (xs ys : List ℕ) → Rises xs → Rises ys → ((z : ℕ) → member z xs ≡ member z ys) → xs ≡ ys
same_members [] [] r q h = refl
same_members [] (y ∷ ys) r q h = let a = h y ∙ itself y ys in cc
same_members (x ∷ xs) [] r q h = let a = sym (itself x xs) ∙ h x in cc
same_members (x ∷ xs) (y ∷ ys) r q h =
    elim (cases_order x y) [
      | inl e ↦ (let P : ℕ → Type 0 = λ n. AllByRecursion (λ z. n < z) ys in
          let every : AllByRecursion (λ z. x < z) ys = subst P (sym e) q.0 in
          let rest = same_members xs ys r.1 q.1 (λ z. behind z x xs ys r.0 every (h z ∙ ap (λ n. member z (n ∷ ys)) (sym e))) in
          ap (λ l. x ∷ l) rest ∙ ap (λ n. n ∷ ys) e)
      | inr (inl lt) ↦ (let a = sym (itself x xs) ∙ h x ∙ smaller x y ys lt q.0 in cc)
      | inr (inr gt) ↦ (let a = sym (itself y ys) ∙ sym (h y) ∙ smaller y x xs gt r.0 in cc)
    ]

kept_by : (p : ℕ → Bool) (z x : ℕ) (xs : List ℕ) (b c : Bool) → p x ≡ b → nat_eq z x ≡ c → member z (filter p xs) ≡ (p z && member z xs)
    → member z (cond b (x ∷ filter p xs) (filter p xs)) ≡ (p z && (c || member z xs))
kept_by p z x xs true true e f h = let same : p z ≡ true = ap p (eqb-true z x f) ∙ e in rw (f, same) refl
kept_by p z x xs true false e f h = rw f h
kept_by p z x xs false true e f h = let same : p z ≡ false = ap p (eqb-true z x f) ∙ e in h ∙ rw same refl
kept_by p z x xs false false e f h = h

pub member_kept : (p : ℕ → Bool) (z : ℕ) (xs : List ℕ) → member z (filter p xs) ≡ (p z && member z xs)
member_kept p z [] = none (p z)
  where
    none : (b : Bool) → false ≡ (b && false)
    none true = refl
    none false = refl
member_kept p z (x ∷ xs) = kept_by p z x xs (p x) (nat_eq z x) refl refl (member_kept p z xs)

pub member_put : (z n : ℕ) (xs : List ℕ) → member z (with_number n xs) ≡ (nat_eq z n || member z xs)
member_put z n xs =
    list_any-append (nat_eq z) (filter (λ x. nat_lt x n) xs) (n ∷ filter (λ x. nat_lt n x) xs)
    ∙ ap (λ b. b || (nat_eq z n || member z (filter (λ x. nat_lt n x) xs))) (member_kept (λ x. nat_lt x n) z xs)
    ∙ ap (λ b. (nat_lt z n && member z xs) || (nat_eq z n || b)) (member_kept (λ x. nat_lt n x) z xs)
    ∙ elim (cases_order z n) [
      | inl e ↦ (let f : nat_lt z n ≡ false = le-ltb z n (omega arith) in let h : nat_eq z n ≡ true = eq-eqb z n e in rw (f, h) refl)
      | inr (inl lt) ↦ (let f : nat_lt z n ≡ true = lt-ltb z n lt in let g : nat_lt n z ≡ false = le-ltb n z (omega arith) in let h : nat_eq z n ≡ false = ne_eqb z n (λ e. omega arith) in rw (f, g, h) (or-false (member z xs)))
      | inr (inr gt) ↦ (let f : nat_lt z n ≡ false = le-ltb z n (omega arith) in let g : nat_lt n z ≡ true = lt-ltb n z gt in let h : nat_eq z n ≡ false = ne_eqb z n (λ e. omega arith) in rw (f, g, h) refl)
    ]

pub member_puts : (z : ℕ) (ns xs : List ℕ) → member z (with_numbers ns xs) ≡ (member z ns || member z xs)
member_puts z [] xs = refl
member_puts z (n ∷ ns) xs =
    member_puts z ns (with_number n xs) ∙ ap (λ b. member z ns || b) (member_put z n xs) ∙ swapped (member z ns) (nat_eq z n) (member z xs)
  where
    swapped : (a b c : Bool) → (a || (b || c)) ≡ ((b || a) || c)
    swapped true true c = refl
    swapped true false c = refl
    swapped false true c = refl
    swapped false false c = refl

pub rises_either : (n : ℕ) (b : Bool) (start now : List ℕ) → Rises start → now ≡ cond b (with_number n start) start → Rises now
rises_either n true start now r h = let P : List ℕ → Type 0 = λ l. Rises l in subst P (sym h) (rises_put n start r)
rises_either n false start now r h = let P : List ℕ → Type 0 = λ l. Rises l in subst P (sym h) r

pub ends_are : (n : ℕ) (xs front rest : List ℕ) → filter (λ x. nat_lt x n) xs ≡ front → filter (λ x. nat_lt n x) xs ≡ rest → with_number n xs ≡ front ++ n ∷ rest
ends_are n xs front rest below above = join_ends (filter (λ x. nat_lt x n) xs) (filter (λ x. nat_lt n x) xs) front rest n below above

pub longer_by : (n at : ℕ) (xs : List ℕ) → length xs + 1 ≡ length (take at xs ++ n ∷ drop at xs)
longer_by n at xs =
    let a = length-append (take at xs) (n ∷ drop at xs) in
    let b = length-append (take at xs) (drop at xs) in
    let c = ap length (take-drop at xs) in
    omega arith
