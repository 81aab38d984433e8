-- Labels of an order, of which no two are equal, rise in it; and they stay so with one more.
use Rattle.std.proofs.Common.{◌≡◌, ◌≢◌, ℕ, zero, suc, ◌+◌, ◌-◌, ◌<◌, ◌≤◌, true, false, Some, None, nat_lt, ap, ◌∙◌, List, [], ◌∷◌, ◌++◌, nat_eq, length, get_or, take, drop, sym, subst, inl, inr, refl, arith, eq-eqb}
use Rattle.std.specs.List.{Contains, insert, slice_get}
use Rattle.std.specs.Option.{ForSome}
use Rattle.std.specs.List.Sorted.{IsPartitionedBy, IsPartitionPoint}
use Rattle.std.proofs.lemmas.Bool.{ne_eqb, cases_lt, cases_order, le-ltb, ltb-true, ltb-false}
use Rattle.std.proofs.lemmas.List.{take-append-drop, get_or_default, get_or-drop, length-drop}
use Rattle.std.proofs.lemmas.List.Sorted.{IsPartitionedBy-ltb}
use Rattle.std.proofs.lemmas.List.Elements.{Contains-append_left, Contains-append_right, Contains-append_cases}
use Rattle.place_order.specs.Labels.{place_in, IsNew}
use Rattle.place_order.specs.Rising.{IsBeforeAll, IsRising, is_before}
use Rattle.place_order.proofs.RiseLemmas.{rising_still}
use Rattle.log_index.specs.Rows.{IsApart}

differs : (x y : ℕ) (xs : List ℕ) → IsNew x xs → Contains xs y → x ≢ y
differs x y xs new there e = let P : ℕ → Type 0 = λ n. Contains xs n in new (subst P (sym e) there)

contains_at : (xs : List ℕ) (i : ℕ) → i < length xs → Contains xs (get_or xs i 0)
contains_at xs i lt = (i, lt, sym (get_or_default xs i 0 (get_or xs i 0) lt))

none : (x : ℕ) → Contains [] x → ⊥
none x (i, lt, e) = absurd (omega arith)

only : (x y : ℕ) → Contains (x ∷ []) y → x ≡ y
only x y (zero, lt, e) = e
only x y (suc i, lt, e) = absurd (omega arith)

before_first : (x : ℕ) (xs ys : List ℕ) → IsNew x xs → IsRising xs ys → IsBeforeAll (x ∷ xs) x ys
before_first x xs [] new r = tt
before_first x xs (y ∷ ys) new r =
    let e : nat_eq x x ≡ true = eq-eqb x x refl in
    let f : nat_eq x y ≡ false = ne_eqb x y (differs x y xs new r.0) in
    (rw (e, f) (omega arith), before_first x xs ys new r.2)

-- labels of which no two are equal rise in themselves
pub rising_self : (xs : List ℕ) → IsApart xs → IsRising xs xs
rising_self [] apart = tt
rising_self (x ∷ xs) apart =
    let more = rising_self xs apart.1 in
    ((0, omega arith, refl), before_first x xs xs apart.0 more, rising_still xs 0 x apart.0 xs more)

whole : (xs : List ℕ) (at x : ℕ) → Contains (take at xs ++ drop at xs) x → Contains xs x
whole xs at x there = let P : List ℕ → Type 0 = λ l. Contains l x in subst P (take-append-drop at xs) there

new_insert : (x made : ℕ) (xs : List ℕ) (at : ℕ) → made ≢ x → IsNew x xs → IsNew x (insert xs at made)
new_insert x made xs at apart new there =
    elim (Contains-append_cases (take at xs) (made ∷ drop at xs) x there) [
      | inl front ↦ new (whole xs at x (Contains-append_left (take at xs) (drop at xs) x front))
      | inr rest ↦ elim (Contains-append_cases (made ∷ []) (drop at xs) x rest) [
        | inl this ↦ apart (only made x this)
        | inr back ↦ new (whole xs at x (Contains-append_right (take at xs) (drop at xs) x back))
      ]
    ]

new_rest : (x y : ℕ) (ys : List ℕ) → IsNew x (y ∷ ys) → IsNew x ys
new_rest x y ys new there = new (Contains-append_right (y ∷ []) ys x there)

-- no two are equal with a new one among them
pub apart_insert : (xs : List ℕ) (at made : ℕ) → IsNew made xs → IsApart xs → IsApart (insert xs at made)
apart_insert [] zero made new apart = (new, tt)
apart_insert [] (suc at) made new apart = (new, tt)
apart_insert (x ∷ xs) zero made new apart = (new, apart)
apart_insert (x ∷ xs) (suc at) made new apart =
    (new_insert x made xs at (differs made x (x ∷ xs) new (0, omega arith, refl)) apart.0, apart_insert xs at made (new_rest made x xs new) apart.1)

-- nor of those without so many of the first
pub apart_drop : (n : ℕ) (xs : List ℕ) → IsApart xs → IsApart (drop n xs)
apart_drop zero xs apart = apart
apart_drop (suc n) [] apart = tt
apart_drop (suc n) (x ∷ xs) apart = apart_drop n xs apart.1

-- the label at a place stands there
pub place_at : (xs : List ℕ) (i : ℕ) → IsApart xs → i < length xs → place_in xs (get_or xs i 0) ≡ i
place_at [] i apart lt = absurd (omega arith)
place_at (x ∷ xs) zero apart lt = let e : nat_eq x x ≡ true = eq-eqb x x refl in rw e refl
place_at (x ∷ xs) (suc i) apart lt =
    let n : i < length xs = omega arith in
    let e : nat_eq x (get_or xs i 0) ≡ false = ne_eqb x (get_or xs i 0) (differs x (get_or xs i 0) xs apart.0 (contains_at xs i n)) in
    let more = place_at xs i apart.1 n in
    rw e (omega arith)

-- ---- the place of a label, found by halves

module _ (xs : List ℕ) (apart : IsApart xs) where
  stands_there : (i d : ℕ) → i < length xs → place_in xs (get_or xs i d) ≡ i
  stands_there i d lt = ap (place_in xs) (get_or_default xs i d 0 lt) ∙ place_at xs i apart lt

  parted : (n : ℕ) → IsPartitionedBy (λ x. nat_lt (place_in xs x) n) xs
  parted n = IsPartitionedBy-ltb (place_in xs) xs n (λ i j d le lt. let e = stands_there i d (omega arith) in let f = stands_there j d lt in omega arith)

  placed : (n at : ℕ) → n < length xs → IsPartitionPoint (λ x. nat_lt (place_in xs x) n ≡ true) (λ x. nat_lt (place_in xs x) n ≡ false) xs at → at ≡ n
  placed n at within point =
      elim (cases_order at n) [
        | inl is ↦ is
        | inr (inl lower) ↦ (let e = stands_there at 0 (omega arith) in let a = ltb-false _ _ (point.1 at 0 (omega arith) (omega arith)) in absurd (omega arith))
        | inr (inr higher) ↦ (let e = stands_there n 0 within in let a = ltb-true _ _ (point.0 n 0 (omega arith) higher) in absurd (omega arith))
      ]

-- ---- the labels behind a place

got : (xs : List ℕ) (n : ℕ) → n < length xs → slice_get xs n ≡ Some (get_or xs n 0)
got [] n lt = absurd (omega arith)
got (x ∷ xs) zero lt = refl
got (x ∷ xs) (suc n) lt = got xs n (omega arith)

past_end : (xs : List ℕ) (n : ℕ) → length xs ≤ n → slice_get xs n ≡ None
past_end [] n le = refl
past_end (x ∷ xs) zero le = absurd (omega arith)
past_end (x ∷ xs) (suc n) le = past_end xs n (omega arith)

pub known_end : (xs : List ℕ) (n : ℕ) → ForSome (slice_get xs n) (Contains xs)
known_end xs n = λ x is.
    elim (cases_lt n (length xs)) [
      | inl lt ↦ (let same : get_or xs n 0 ≡ x = (let here = sym (got xs n lt) ∙ is in cc) in let P : ℕ → Type 0 = λ z. Contains xs z in subst P same (contains_at xs n lt))
      | inr ge ↦ (let none : None ≡ Some x = sym (past_end xs n ge) ∙ is in cc)
    ]

module _ (xs : List ℕ) (apart : IsApart xs) (n x : ℕ) where
  end_at : n < length xs → is_before xs (slice_get xs n) x ≡ nat_lt (place_in xs x) n
  end_at lt = ap (λ e. is_before xs e x) (got xs n lt) ∙ ap (nat_lt (place_in xs x)) (place_at xs n apart lt)

  -- one that stands from a place on isn't before the one at it
  pub none_before : Contains (drop n xs) x → is_before xs (slice_get xs n) x ≡ false
  none_before (i, lt, e) =
      let long = length-drop n xs in
      let inside : n + i < length xs = omega arith in
      let here : get_or xs (n + i) x ≡ x = sym (get_or-drop n xs i x) ∙ e in
      let at : place_in xs x ≡ n + i = ap (place_in xs) (sym here) ∙ stands_there xs apart (n + i) x inside in
      end_at (omega arith) ∙ le-ltb (place_in xs x) n (omega arith)

  -- and one that isn't stands from there on
  pub from_there : Contains xs x → is_before xs (slice_get xs n) x ≡ false → Contains (drop n xs) x
  from_there (j, lt, e) h =
      elim (cases_lt n (length xs)) [
        | inl inside ↦ (
            let at : place_in xs x ≡ j = ap (place_in xs) (sym e) ∙ stands_there xs apart j x lt in
            let behind = ltb-false (place_in xs x) n (sym (end_at inside) ∙ h) in
            let long = length-drop n xs in
            let back : n + (j - n) ≡ j = omega arith in
            (j - n, omega arith, get_or-drop n xs (j - n) x ∙ ap (λ m. get_or xs m x) back ∙ e))
        | inr ge ↦ (let all : true ≡ false = sym (ap (λ o. is_before xs o x) (past_end xs n ge)) ∙ h in cc)
      ]

-- by the places in the order, which has the same labels
module _ (xs order : List ℕ) (same : xs ≡ order) (apart : IsApart xs) where
  pub parted_by_order : (n : ℕ) → IsPartitionedBy (λ x. nat_lt (place_in order x) n) xs
  parted_by_order n = subst (λ o. IsPartitionedBy (λ x. nat_lt (place_in o x) n) xs) same (parted xs apart n)

  pub placed_by_order : (n at : ℕ) → n < length xs → IsPartitionPoint (λ x. nat_lt (place_in order x) n ≡ true) (λ x. nat_lt (place_in order x) n ≡ false) xs at → at ≡ n
  placed_by_order n at within point =
      placed xs apart n at within
      (subst (λ o. IsPartitionPoint (λ x. nat_lt (place_in o x) n ≡ true) (λ x. nat_lt (place_in o x) n ≡ false) xs at) (sym same) point)
