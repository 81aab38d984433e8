-- Marks: how many there are at most, what one more and one fewer leave of them, and where they stand after an insertion.
use Rattle.std.proofs.Common.{◌≡◌, ℕ, zero, suc, ◌+◌, ◌-◌, ◌<◌, ◌≤◌, Bool, true, false, cond, not, ◌&&◌, ◌||◌, List, [], ◌∷◌, ◌++◌, nat_eq, nat_lt, length, get_or, take, drop, map, refl, sym, ap, ◌∙◌, subst, inl, inr, arith, eq-eqb, drop-cons, append-nil}
use Rattle.std.specs.List.{All, AllByRecursion, filter, list_any}
use Rattle.std.proofs.lemmas.Bool.{cases_order, cases_lt, lt-ltb, le-ltb, ne_eqb}
use Rattle.std.proofs.lemmas.List.Folds.{list_any-append}
use Rattle.std.proofs.lemmas.List.Elements.{All-append, All-cons, All-drop, All-filter, All-from_recursion, All-map, All-weaker, recursion_from_All}
use Rattle.std.proofs.lemmas.List.{take-append-drop, take_all, drop_all, drop-append-le, drop-drop, drop-take, length-map, length-take-le}
use Rattle.std.proofs.Math.Bool.{or-true}
use Rattle.lang_core.specs.Places.{past, IsRank}
use Rattle.dependency_index.specs.Numbers.{Rises, with_number}
use Rattle.dependency_index.proofs.NumberLemmas.{rises_put, member_kept}
use Rattle.log_index.specs.Marks.{is_marked, lowered, shifted, AreMarks}

-- ---- how many there are

few_after : (x count : ℕ) (xs : List ℕ) → AllByRecursion (λ y. x < y) xs → Rises xs → AllByRecursion (λ q. q < count) xs → x < count → length xs + x < count
few_after x count [] all r within lt = omega arith
few_after x count (y ∷ ys) all r within lt =
    let more = few_after y count ys r.0 r.1 within.1 within.0 in
    let here = all.0 in
    omega arith

few_by : (count : ℕ) (xs : List ℕ) → Rises xs → AllByRecursion (λ q. q < count) xs → length xs ≤ count
few_by count [] r within = omega arith
few_by count (x ∷ xs) r within = let more = few_after x count xs r.0 r.1 within.1 within.0 in omega arith

-- numbers that rise and are below a count are no more than that
pub few : (count : ℕ) (marks : List ℕ) → AreMarks count marks → length marks ≤ count
few count marks are = few_by count marks are.rising (recursion_from_All (λ q. q < count) marks are.within)

-- ---- one more, and one fewer

pub put_are : (count n : ℕ) (marks : List ℕ) → n < count → AreMarks count marks → AreMarks count (with_number n marks)
put_are count n marks lt are =
    let P : ℕ → Type 0 = λ q. q < count in
    record {
      rising = rises_put n marks are.rising;
      within = All-append P (filter (λ x. nat_lt x n) marks) (n ∷ filter (λ x. nat_lt n x) marks) (All-filter (λ x. nat_lt x n) P marks are.within)
          (All-cons P n (filter (λ x. nat_lt n x) marks) lt (All-filter (λ x. nat_lt n x) P marks are.within));
    }

-- there is a place for it
pub put_fits : (count n capacity : ℕ) (marks : List ℕ) → n < count → AreMarks count marks → count ≤ capacity → length (with_number n marks) ≤ capacity
put_fits count n capacity marks lt are room = let h = few count (with_number n marks) (put_are count n marks lt are) in omega arith

-- which are left of those below a number and those that aren't
left_by : (q n : ℕ) (taken : Bool) (marks front rest : List ℕ) → marks ≡ front ++ rest → filter (λ x. nat_lt x n) marks ≡ front
    → rest ≡ cond taken (n ∷ filter (λ x. nat_lt n x) marks) (filter (λ x. nat_lt n x) marks)
    → is_marked q rest ≡ (not (nat_lt q n) && is_marked q marks)
left_by q n taken marks front rest whole below above =
    let by_front : is_marked q front ≡ (nat_lt q n && is_marked q marks) = ap (is_marked q) (sym below) ∙ member_kept (λ x. nat_lt x n) q marks in
    let parts : is_marked q marks ≡ (is_marked q front || is_marked q rest) = ap (is_marked q) whole ∙ list_any-append (nat_eq q) front rest in
    elim (cases_lt q n) [
      | inl lt ↦ (let e = lt-ltb q n lt in let f : nat_lt n q ≡ false = le-ltb n q (omega arith) in let g : nat_eq q n ≡ false = ne_eqb q n (λ h. omega arith) in
          ap (is_marked q) above ∙ one (cond_at taken) g ∙ member_kept (λ x. nat_lt n x) q marks ∙ ap (λ b. b && is_marked q marks) f ∙ sym (ap (λ b. not b && is_marked q marks) e))
      | inr ge ↦ (let e = le-ltb q n ge in
          sym (ap (λ b. not b && is_marked q marks) e ∙ parts ∙ ap (λ b. b || is_marked q rest) (by_front ∙ ap (λ b. b && is_marked q marks) e)))
    ]
  where
    after : List ℕ
    after = filter (λ x. nat_lt n x) marks

    cond_at : (b : Bool) → is_marked q (cond b (n ∷ after) after) ≡ ((b && nat_eq q n) || is_marked q after)
    cond_at true = refl
    cond_at false = refl

    one : is_marked q (cond taken (n ∷ after) after) ≡ ((taken && nat_eq q n) || is_marked q after) → nat_eq q n ≡ false → is_marked q (cond taken (n ∷ after) after) ≡ is_marked q after
    one h g = h ∙ ap (λ b. (taken && b) || is_marked q after) g ∙ never taken
      where
        never : (b : Bool) → ((b && false) || is_marked q after) ≡ is_marked q after
        never true = refl
        never false = refl

rest_is : (n at : ℕ) (taken : Bool) (marks : List ℕ) → filter (λ x. nat_lt n x) marks ≡ drop (past taken at) marks → IsRank at taken (length marks) → (taken ≡ true → get_or marks at n ≡ n)
    → drop at marks ≡ cond taken (n ∷ filter (λ x. nat_lt n x) marks) (filter (λ x. nat_lt n x) marks)
rest_is n at true marks above rank here =
    drop-cons marks at n (rank.there refl) ∙ ap (λ x. x ∷ drop (suc at) marks) (here refl) ∙ ap (λ l. n ∷ l) (sym above)
rest_is n at false marks above rank here = sym above

-- the marks that are left of those below a number
pub left_at : (q n at : ℕ) (taken : Bool) (marks : List ℕ) → filter (λ x. nat_lt x n) marks ≡ take at marks → filter (λ x. nat_lt n x) marks ≡ drop (past taken at) marks
    → IsRank at taken (length marks) → (taken ≡ true → get_or marks at n ≡ n) → is_marked q (drop at marks) ≡ (not (nat_lt q n) && is_marked q marks)
left_at q n at taken marks below above rank here =
    left_by q n taken marks (take at marks) (drop at marks) (sym (take-append-drop at marks)) below (rest_is n at taken marks above rank here)

rises_drop : (n : ℕ) (xs : List ℕ) → Rises xs → Rises (drop n xs)
rises_drop zero xs r = r
rises_drop (suc n) [] r = tt
rises_drop (suc n) (x ∷ xs) r = rises_drop n xs r.1

pub drop_are : (count n : ℕ) (marks : List ℕ) → AreMarks count marks → AreMarks count (drop n marks)
drop_are count n marks are = record { rising = rises_drop n marks are.rising; within = All-drop (λ q. q < count) n marks are.within }

-- one more, among those behind a front
pub put_behind_front : (front at n : ℕ) (xs : List ℕ) → front + at ≤ length xs
    → drop front (take (front + at) xs ++ n ∷ drop (front + at) xs) ≡ take at (drop front xs) ++ n ∷ drop at (drop front xs)
put_behind_front front at n xs le =
    let long = length-take-le (front + at) xs le in
    drop-append-le front (take (front + at) xs) (n ∷ drop (front + at) xs) (omega arith)
    ∙ ap (λ l. l ++ n ∷ drop (front + at) xs) (drop-take front at xs)
    ∙ ap (λ l. take at (drop front xs) ++ n ∷ l) (sym (drop-drop at front xs))

-- ---- after an insertion

module _ (place : ℕ) where
  shift_lower : (x y : ℕ) → x < y → shifted place x < shifted place y
  shift_lower x y lt =
      elim (cases_lt x place) [
        | inl a ↦ (let e = lt-ltb x place a in elim (cases_lt y place) [
          | inl b ↦ (let f = lt-ltb y place b in rw (e, f) lt)
          | inr b ↦ (let f = le-ltb y place b in rw (e, f) (omega arith))
        ])
        | inr a ↦ (let e = le-ltb x place a in let f = le-ltb y place (omega arith) in rw (e, f) (omega arith))
      ]

  shift_all : (x : ℕ) (ys : List ℕ) → AllByRecursion (λ y. x < y) ys → AllByRecursion (λ y. shifted place x < y) (map (shifted place) ys)
  shift_all x [] all = tt
  shift_all x (y ∷ ys) all = (shift_lower x y all.0, shift_all x ys all.1)

  shift_rises : (xs : List ℕ) → Rises xs → Rises (map (shifted place) xs)
  shift_rises [] r = tt
  shift_rises (x ∷ xs) r = (shift_all x xs r.0, shift_rises xs r.1)

  shift_below : (count x : ℕ) → x < count → shifted place x < count + 1
  shift_below count x lt =
      elim (cases_lt x place) [
        | inl a ↦ (let e = lt-ltb x place a in rw e (omega arith))
        | inr a ↦ (let e = le-ltb x place a in rw e (omega arith))
      ]

  pub shift_are : (count : ℕ) (marks : List ℕ) → AreMarks count marks → AreMarks (count + 1) (map (shifted place) marks)
  shift_are count marks are = record {
    rising = shift_rises marks are.rising;
    within = All-map (λ q. q < count + 1) (shifted place) marks (All-weaker (λ q. q < count) (λ q. shifted place q < count + 1) (λ x lt. shift_below count x lt) marks are.within);
  }

  same_before : (q x : ℕ) → q < place → nat_eq q (shifted place x) ≡ nat_eq q x
  same_before q x lt =
      elim (cases_lt x place) [
        | inl a ↦ (let e = lt-ltb x place a in rw e refl)
        | inr a ↦ (let e = le-ltb x place a in let f = ne_eqb q (x + 1) (λ h. omega arith) in let g = ne_eqb q x (λ h. omega arith) in rw (e, f, g) refl)
      ]

  same_equal : (q x : ℕ) → nat_eq (q + 1) (x + 1) ≡ nat_eq q x
  same_equal q x =
      elim (cases_order q x) [
        | inl e ↦ (let f = eq-eqb (q + 1) (x + 1) (omega arith) in let g = eq-eqb q x e in f ∙ sym g)
        | inr (inl lt) ↦ (let f = ne_eqb (q + 1) (x + 1) (λ h. omega arith) in let g = ne_eqb q x (λ h. omega arith) in f ∙ sym g)
        | inr (inr gt) ↦ (let f = ne_eqb (q + 1) (x + 1) (λ h. omega arith) in let g = ne_eqb q x (λ h. omega arith) in f ∙ sym g)
      ]

  same_behind : (q x : ℕ) → place ≤ q → nat_eq (q + 1) (shifted place x) ≡ nat_eq q x
  same_behind q x le =
      elim (cases_lt x place) [
        | inl a ↦ (let e = lt-ltb x place a in let f = ne_eqb (q + 1) x (λ h. omega arith) in let g = ne_eqb q x (λ h. omega arith) in rw (e, f, g) refl)
        | inr a ↦ (let e = le-ltb x place a in rw e (same_equal q x))
      ]

  -- what stands before the place is marked as it was
  pub shift_before : (q : ℕ) (marks : List ℕ) → q < place → is_marked q (map (shifted place) marks) ≡ is_marked q marks
  shift_before q [] lt = refl
  shift_before q (x ∷ xs) lt = ap (λ b. b || is_marked q (map (shifted place) xs)) (same_before q x lt) ∙ ap (λ b. nat_eq q x || b) (shift_before q xs lt)

  -- and so is what stands behind it, one place further
  pub shift_behind : (q : ℕ) (marks : List ℕ) → place ≤ q → is_marked (q + 1) (map (shifted place) marks) ≡ is_marked q marks
  shift_behind q [] le = refl
  shift_behind q (x ∷ xs) le = ap (λ b. b || is_marked (q + 1) (map (shifted place) xs)) (same_behind q x le) ∙ ap (λ b. nat_eq q x || b) (shift_behind q xs le)

  -- and nothing is marked at the place itself
  pub shift_here : (marks : List ℕ) → is_marked place (map (shifted place) marks) ≡ false
  shift_here [] = refl
  shift_here (x ∷ xs) =
      let never : nat_eq place (shifted place x) ≡ false = elim (cases_lt x place) [
        | inl a ↦ (let e = lt-ltb x place a in let f = ne_eqb place x (λ h. omega arith) in rw (e, f) refl)
        | inr a ↦ (let e = le-ltb x place a in let f = ne_eqb place (x + 1) (λ h. omega arith) in rw (e, f) refl)
      ] in
      ap (λ b. b || is_marked place (map (shifted place) xs)) never ∙ shift_here xs

pub moved_are : (count place : ℕ) (old new : List ℕ) → AreMarks count old → new ≡ map (shifted place) old → AreMarks (count + 1) new
moved_are count place old new are is = let P : List ℕ → Type 0 = λ l. AreMarks (count + 1) l in subst P (sym is) (shift_are place count old are)

-- ---- after a fold

-- no mark that is left stands before the place
pub all_above : (n : ℕ) (old new : List ℕ) → ((q : ℕ) → is_marked q new ≡ (not (nat_lt q n) && is_marked q old)) → All (λ q. n ≤ q) new
all_above n old new each = λ k d lt.
    let q = get_or new k d in
    let there : is_marked q new ≡ true = any_at (nat_eq q) new k d lt (eq-eqb q q refl) in
    elim (cases_lt q n) [
      | inl low ↦ (let e = lt-ltb q n low in let b : false ≡ true = sym (ap (λ b. not b && is_marked q old) e) ∙ sym (each q) ∙ there in cc)
      | inr high ↦ high
    ]
  where
    any_at : (p : ℕ → Bool) (xs : List ℕ) (k d : ℕ) → k < length xs → p (get_or xs k d) ≡ true → list_any p xs ≡ true
    any_at p [] k d lt h = absurd (omega arith)
    any_at p (x ∷ xs) zero d lt h = ap (λ b. b || list_any p xs) h
    any_at p (x ∷ xs) (suc k) d lt h = ap (λ b. p x || b) (any_at p xs k d (omega arith) h) ∙ or-true (p x)

pub not_above : (n q : ℕ) (b : Bool) → (not (nat_lt (n + q) n) && b) ≡ b
not_above n q b = let e : nat_lt (n + q) n ≡ false = le-ltb (n + q) n (omega arith) in rw e refl

module _ (n : ℕ) where
  lower_lower : (x : ℕ) (ys : List ℕ) → n ≤ x → AllByRecursion (λ y. n ≤ y) ys → AllByRecursion (λ y. x < y) ys → AllByRecursion (λ y. lowered n x < y) (map (lowered n) ys)
  lower_lower x [] le high all = tt
  lower_lower x (y ∷ ys) le high all = (let a = high.0 in let b = all.0 in omega arith, lower_lower x ys le high.1 all.1)

  lower_rises : (xs : List ℕ) → AllByRecursion (λ y. n ≤ y) xs → Rises xs → Rises (map (lowered n) xs)
  lower_rises [] high r = tt
  lower_rises (x ∷ xs) high r = (lower_lower x xs high.0 high.1 r.0, lower_rises xs high.1 r.1)

  lower_within : (count : ℕ) (xs : List ℕ) → AllByRecursion (λ y. n ≤ y) xs → AllByRecursion (λ q. q < count) xs → AllByRecursion (λ q. q < count - n) (map (lowered n) xs)
  lower_within count [] high within = tt
  lower_within count (x ∷ xs) high within = (let a = high.0 in let b = within.0 in omega arith, lower_within count xs high.1 within.1)

  -- they rise, and are of those that are left
  pub lower_are : (count : ℕ) (marks : List ℕ) → All (λ q. n ≤ q) marks → AreMarks count marks → AreMarks (count - n) (map (lowered n) marks)
  lower_are count marks high are =
      let above = recursion_from_All (λ q. n ≤ q) marks high in
      record {
        rising = lower_rises marks above are.rising;
        within = All-from_recursion (λ q. q < count - n) (map (lowered n) marks) (lower_within count marks above (recursion_from_All (λ q. q < count) marks are.within));
      }

  same_lower : (q x : ℕ) → n ≤ x → nat_eq q (x - n) ≡ nat_eq (n + q) x
  same_lower q x le =
      elim (cases_order q (x - n)) [
        | inl e ↦ (let f = eq-eqb q (x - n) e in let g = eq-eqb (n + q) x (omega arith) in f ∙ sym g)
        | inr (inl lt) ↦ (let f = ne_eqb q (x - n) (λ h. omega arith) in let g = ne_eqb (n + q) x (λ h. omega arith) in f ∙ sym g)
        | inr (inr gt) ↦ (let f = ne_eqb q (x - n) (λ h. omega arith) in let g = ne_eqb (n + q) x (λ h. omega arith) in f ∙ sym g)
      ]

  lower_by : (q : ℕ) (xs : List ℕ) → AllByRecursion (λ y. n ≤ y) xs → is_marked q (map (lowered n) xs) ≡ is_marked (n + q) xs
  lower_by q [] high = refl
  lower_by q (x ∷ xs) high =
      ap (λ b. b || is_marked q (map (lowered n) xs)) (same_lower q x high.0) ∙ ap (λ b. nat_eq (n + q) x || b) (lower_by q xs high.1)

  -- what is left is marked as it was
  pub lower_behind : (q : ℕ) (marks : List ℕ) → All (λ q. n ≤ q) marks → is_marked q (map (lowered n) marks) ≡ is_marked (n + q) marks
  lower_behind q marks high = lower_by q marks (recursion_from_All (λ q. n ≤ q) marks high)

-- a slice that was written whole, in place of what stood in the list
pub spliced : (f : ℕ → ℕ) (xs ys : List ℕ) (n : ℕ) → ys ≡ map f xs → n ≡ length xs → take n (ys ++ drop (length ys) xs) ≡ map f xs
spliced f xs ys n is whole =
    let len : length ys ≡ length xs = ap length is ∙ length-map xs f in
    ap (λ l. take n (ys ++ l)) (drop_all (length ys) xs (omega arith)) ∙ ap (take n) (append-nil ys) ∙ take_all n ys (omega arith) ∙ is

wider : (count : ℕ) (marks : List ℕ) (more : ℕ) → count ≤ more → AreMarks count marks → AreMarks more marks
wider count marks more le are =
    record { rising = are.rising; within = All-weaker (λ q. q < count) (λ q. q < more) (λ q lt. omega arith) marks are.within }

pub few_marks : (count : ℕ) (marks : List ℕ) → count < 100000 → AreMarks count marks → AreMarks 100000 marks
few_marks count marks lt are = wider count marks 100000 (omega arith) are
