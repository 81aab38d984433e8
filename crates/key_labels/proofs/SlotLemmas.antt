-- What stands in slots, in the order of their numbers.
use Rattle.std.proofs.Common.{◌≡◌, ◌≢◌, ℕ, zero, suc, ◌+◌, ◌<◌, ◌≤◌, Bool, true, false, List, [], ◌∷◌, ◌++◌, Option, Some, length, get_or, set, take, drop, nat_eq, refl, sym, ap, ◌∙◌, subst, inl, inr, arith, eq-eqb}
use Rattle.std.specs.List.{AllByRecursion, AllZip, slice_get, insert}
use Rattle.std.specs.List.Sorted.{IsPartitionedBy}
use Rattle.std.specs.Option.{option_map_or, option_to_list}
use Rattle.std.proofs.lemmas.Bool.{cases_lt, ne_eqb, false≢true}
use Rattle.std.proofs.lemmas.List.{append_assoc, get_or_default}
use Rattle.std.proofs.lemmas.List.Edits.{length-insert, get_or-insert_below, get_or-insert_at, get_or-insert_above}
use Rattle.std.proofs.lemmas.Option.{slice_get-get_or, get_or_from_slice_get}
use Rattle.key_labels.specs.KeyRows.{in_order, IsArranged}
use Rattle.key_labels.specs.Labels.{IsApart}

-- ---- elements of lists

pub all_at : {X : Type 0} (P : X → Type 0) (xs : List X) (i : ℕ) (d : X) → AllByRecursion P xs → i < length xs → P (get_or xs i d)
all_at P [] i d all lt = absurd (omega (arith, lt))
all_at P (x ∷ xs) zero d all lt = all.0
all_at P (x ∷ xs) (suc i) d all lt = all_at P xs i d all.1 (omega (arith, lt))

all_weaker : {X : Type 0} (P Q : X → Type 0) (xs : List X) → ((x : X) → P x → Q x) → AllByRecursion P xs → AllByRecursion Q xs
all_weaker P Q [] f all = tt
all_weaker P Q (x ∷ xs) f all = (f x all.0, all_weaker P Q xs f all.1)

all_insert : {X : Type 0} (P : X → Type 0) (xs : List X) (i : ℕ) (y : X) → AllByRecursion P xs → P y → AllByRecursion P (insert xs i y)
all_insert P [] zero y all h = (h, tt)
all_insert P [] (suc i) y all h = (h, tt)
all_insert P (x ∷ xs) zero y all h = (h, all)
all_insert P (x ∷ xs) (suc i) y all h = (all.0, all_insert P xs i y all.1 h)

some_there : {X : Type 0} (xs : List X) (i : ℕ) → i < length xs → (x : X) × (slice_get xs i ≡ Some x)
some_there [] i lt = absurd (omega (arith, lt))
some_there (x ∷ xs) zero lt = (x, refl)
some_there (x ∷ xs) (suc i) lt = some_there xs i (omega (arith, lt))

get_more : {X : Type 0} (xs : List X) (i : ℕ) (y : X) → i < length xs → slice_get (xs ++ y ∷ []) i ≡ slice_get xs i
get_more [] i y lt = absurd (omega (arith, lt))
get_more (x ∷ xs) zero y lt = refl
get_more (x ∷ xs) (suc i) y lt = get_more xs i y (omega (arith, lt))

get_last : {X : Type 0} (xs : List X) (y : X) → slice_get (xs ++ y ∷ []) (length xs) ≡ Some y
get_last [] y = refl
get_last (x ∷ xs) y = get_last xs y

get_set : {X : Type 0} (xs : List X) (i : ℕ) (y : X) → i < length xs → slice_get (set xs i y) i ≡ Some y
get_set [] i y lt = absurd (omega (arith, lt))
get_set (x ∷ xs) zero y lt = refl
get_set (x ∷ xs) (suc i) y lt = get_set xs i y (omega (arith, lt))

get_other : {X : Type 0} (xs : List X) (i j : ℕ) (y : X) → j ≢ i → slice_get (set xs i y) j ≡ slice_get xs j
get_other [] i j y apart = refl
get_other (x ∷ xs) zero zero y apart = absurd (apart refl)
get_other (x ∷ xs) zero (suc j) y apart = refl
get_other (x ∷ xs) (suc i) zero y apart = refl
get_other (x ∷ xs) (suc i) (suc j) y apart = get_other xs i j y (λ e. apart (ap suc e))

unequal : (a b : ℕ) → nat_eq a b ≡ false → a ≢ b
unequal a b h e = false≢true (sym h ∙ eq-eqb a b e)

-- ---- slots in order

module _ {X : Type 0} where
  -- at a place stands what its slot holds
  pub slot_at : (order : List ℕ) (slots : List X) (i : ℕ) (d : X) → AllByRecursion (λ n. n < length slots) order → i < length order
      → slice_get slots (get_or order i 0) ≡ Some (get_or (in_order order slots) i d)
  slot_at [] slots i d all lt = absurd (omega (arith, lt))
  slot_at (n ∷ ns) slots zero d all lt =
      let e = slice_get-get_or slots n d all.0 in
      e ∙ ap Some (sym (ap (λ o. get_or (option_to_list o ++ in_order ns slots) 0 d) e))
  slot_at (n ∷ ns) slots (suc i) d all lt =
      let e = slice_get-get_or slots n d all.0 in
      slot_at ns slots i d all.1 (omega (arith, lt)) ∙ ap Some (sym (ap (λ o. get_or (option_to_list o ++ in_order ns slots) (suc i) d) e))

  pub read_in : (order : List ℕ) (slots : List X) (i : ℕ) (d : X) → AllByRecursion (λ n. n < length slots) order → i < length order
      → get_or (in_order order slots) i d ≡ get_or slots (get_or order i 0) d
  read_in order slots i d all lt = sym (get_or_from_slice_get slots (get_or order i 0) (get_or (in_order order slots) i d) d (slot_at order slots i d all lt))

  pub length_in : (order : List ℕ) (slots : List X) → AllByRecursion (λ n. n < length slots) order → length (in_order order slots) ≡ length order
  length_in [] slots all = refl
  length_in (n ∷ ns) slots all =
      let s = some_there slots n all.0 in
      ap (λ o. length (option_to_list o ++ in_order ns slots)) s.1 ∙ ap suc (length_in ns slots all.1)

  in_append : (ms ns : List ℕ) (slots : List X) → in_order (ms ++ ns) slots ≡ in_order ms slots ++ in_order ns slots
  in_append [] ns slots = refl
  in_append (m ∷ ms) ns slots =
      ap (λ l. option_to_list (slice_get slots m) ++ l) (in_append ms ns slots)
      ∙ sym (append_assoc (option_to_list (slice_get slots m)) (in_order ms slots) (in_order ns slots))

  take_in : (order : List ℕ) (slots : List X) (i : ℕ) → AllByRecursion (λ n. n < length slots) order → in_order (take i order) slots ≡ take i (in_order order slots)
  take_in [] slots zero all = refl
  take_in [] slots (suc i) all = refl
  take_in (n ∷ ns) slots zero all =
      let s = some_there slots n all.0 in
      sym (ap (λ o. take 0 (option_to_list o ++ in_order ns slots)) s.1)
  take_in (n ∷ ns) slots (suc i) all =
      let s = some_there slots n all.0 in
      ap (λ o. option_to_list o ++ in_order (take i ns) slots) s.1
      ∙ ap (λ l. s.0 ∷ l) (take_in ns slots i all.1)
      ∙ sym (ap (λ o. take (suc i) (option_to_list o ++ in_order ns slots)) s.1)

  drop_in : (order : List ℕ) (slots : List X) (i : ℕ) → AllByRecursion (λ n. n < length slots) order → in_order (drop i order) slots ≡ drop i (in_order order slots)
  drop_in [] slots zero all = refl
  drop_in [] slots (suc i) all = refl
  drop_in (n ∷ ns) slots zero all =
      let s = some_there slots n all.0 in
      ap (λ o. option_to_list o ++ in_order ns slots) s.1 ∙ sym (ap (λ o. drop 0 (option_to_list o ++ in_order ns slots)) s.1)
  drop_in (n ∷ ns) slots (suc i) all =
      let s = some_there slots n all.0 in
      drop_in ns slots i all.1 ∙ sym (ap (λ o. drop (suc i) (option_to_list o ++ in_order ns slots)) s.1)

  in_more : (order : List ℕ) (slots : List X) (x : X) → AllByRecursion (λ n. n < length slots) order → in_order order (slots ++ x ∷ []) ≡ in_order order slots
  in_more [] slots x all = refl
  in_more (n ∷ ns) slots x all =
      ap (λ o. option_to_list o ++ in_order ns (slots ++ x ∷ [])) (get_more slots n x all.0)
      ∙ ap (λ l. option_to_list (slice_get slots n) ++ l) (in_more ns slots x all.1)

  -- one slot more, whose number goes in at a place
  pub insert_in : (order : List ℕ) (slots : List X) (i : ℕ) (x : X) → AllByRecursion (λ n. n < length slots) order
      → in_order (insert order i (length slots)) (slots ++ x ∷ []) ≡ insert (in_order order slots) i x
  insert_in order slots i x all =
      let more = slots ++ x ∷ [] in
      in_append (take i order) (length slots ∷ drop i order) more
      ∙ ap (λ o. in_order (take i order) more ++ (option_to_list o ++ in_order (drop i order) more)) (get_last slots x)
      ∙ ap (λ l. l ++ x ∷ in_order (drop i order) more) (front_more i)
      ∙ ap (λ l. take i (in_order order slots) ++ x ∷ l) (rest_more i)
    where
      front_all : (ns : List ℕ) (i : ℕ) → AllByRecursion (λ n. n < length slots) ns → AllByRecursion (λ n. n < length slots) (take i ns)
      front_all [] zero all = tt
      front_all [] (suc i) all = tt
      front_all (n ∷ ns) zero all = tt
      front_all (n ∷ ns) (suc i) all = (all.0, front_all ns i all.1)

      rest_all : (ns : List ℕ) (i : ℕ) → AllByRecursion (λ n. n < length slots) ns → AllByRecursion (λ n. n < length slots) (drop i ns)
      rest_all [] zero all = tt
      rest_all [] (suc i) all = tt
      rest_all (n ∷ ns) zero all = all
      rest_all (n ∷ ns) (suc i) all = rest_all ns i all.1

      front_more : (i : ℕ) → in_order (take i order) (slots ++ x ∷ []) ≡ take i (in_order order slots)
      front_more i = in_more (take i order) slots x (front_all order i all) ∙ take_in order slots i all

      rest_more : (i : ℕ) → in_order (drop i order) (slots ++ x ∷ []) ≡ drop i (in_order order slots)
      rest_more i = in_more (drop i order) slots x (rest_all order i all) ∙ drop_in order slots i all

  -- what stands in another slot isn't touched
  set_apart : (order : List ℕ) (slots : List X) (s : ℕ) (x : X) → AllByRecursion (λ n. nat_eq n s ≡ false) order → in_order order (set slots s x) ≡ in_order order slots
  set_apart [] slots s x all = refl
  set_apart (n ∷ ns) slots s x all =
      ap (λ o. option_to_list o ++ in_order ns (set slots s x)) (get_other slots s n x (unequal n s all.0))
      ∙ ap (λ l. option_to_list (slice_get slots n) ++ l) (set_apart ns slots s x all.1)

  -- a slot that is written
  pub set_in : (order : List ℕ) (slots : List X) (i : ℕ) (x : X) → AllByRecursion (λ n. n < length slots) order → IsApart order → i < length order
      → in_order order (set slots (get_or order i 0) x) ≡ set (in_order order slots) i x
  set_in [] slots i x all apart lt = absurd (omega (arith, lt))
  set_in (n ∷ ns) slots zero x all apart lt =
      let s = some_there slots n all.0 in
      ap (λ o. option_to_list o ++ in_order ns (set slots n x)) (get_set slots n x all.0)
      ∙ ap (λ l. x ∷ l) (set_apart ns slots n x apart.0)
      ∙ sym (ap (λ o. set (option_to_list o ++ in_order ns slots) 0 x) s.1)
  set_in (n ∷ ns) slots (suc i) x all apart lt =
      let inside : i < length ns = omega (arith, lt) in
      let m = get_or ns i 0 in
      let other : nat_eq m n ≡ false = all_at (λ y. nat_eq y n ≡ false) ns i 0 apart.0 inside in
      let s = some_there slots n all.0 in
      ap (λ o. option_to_list o ++ in_order ns (set slots m x)) (get_other slots m n x (λ e. unequal m n other (sym e)) ∙ s.1)
      ∙ ap (λ l. s.0 ∷ l) (set_in ns slots i x all.1 apart.1 inside)
      ∙ sym (ap (λ o. set (option_to_list o ++ in_order ns slots) (suc i) x) s.1)

  -- ---- a test of what stands in slots, asked by number

  abbrev pub test_in : (X → Bool) → List X → ℕ → Bool
  test_in test slots n = option_map_or test (slice_get slots n) false

  pub test_is : (test : X → Bool) (slots : List X) (n : ℕ) (x : X) → n < length slots → x ≡ get_or slots n x → test x ≡ test_in test slots n
  test_is test slots n x lt is = ap test is ∙ sym (ap (λ o. option_map_or test o false) (slice_get-get_or slots n x lt))

  pub test_at : (test : X → Bool) (order : List ℕ) (slots : List X) (i : ℕ) (d : X) → AllByRecursion (λ n. n < length slots) order → i < length order
      → test_in test slots (get_or order i 0) ≡ test (get_or (in_order order slots) i d)
  test_at test order slots i d all lt = ap (λ o. option_map_or test o false) (slot_at order slots i d all lt)

  pub parted_in : (test : X → Bool) (order : List ℕ) (slots : List X) → AllByRecursion (λ n. n < length slots) order
      → IsPartitionedBy test (in_order order slots) → IsPartitionedBy (test_in test slots) order
  parted_in test order slots all parted i j d le lt h =
      let inside : i < length order = omega (arith, le, lt) in
      let x = some_there slots (get_or order j 0) (all_at (λ n. n < length slots) order j 0 all lt) in
      let long = length_in order slots all in
      let passes : test (get_or (in_order order slots) j x.0) ≡ true = sym (test_at test order slots j x.0 all lt) ∙ ap (test_in test slots) (get_or_default order j 0 d lt) ∙ h in
      ap (test_in test slots) (get_or_default order i d 0 inside) ∙ test_at test order slots i x.0 all inside ∙ parted i j x.0 le (omega (arith, lt, long)) passes

-- ---- a copy of each slot

zip_at : {X : Type 0} (R : X → X → Type 0) (xs ys : List X) (i : ℕ) → AllZip R xs ys → i < length xs → (x : X) × (y : X) × (slice_get xs i ≡ Some x) × (slice_get ys i ≡ Some y) × R x y
zip_at R [] ys i z lt = absurd (omega (arith, lt))
zip_at R (x ∷ xs) [] i z lt = absurd z
zip_at R (x ∷ xs) (y ∷ ys) zero z lt = (x, y, refl, refl, z.0)
zip_at R (x ∷ xs) (y ∷ ys) (suc i) z lt = zip_at R xs ys i z.1 (omega (arith, lt))

pub zip_length : {X : Type 0} (R : X → X → Type 0) (xs ys : List X) → AllZip R xs ys → length xs ≡ length ys
zip_length R [] [] z = refl
zip_length R [] (y ∷ ys) z = absurd z
zip_length R (x ∷ xs) [] z = absurd z
zip_length R (x ∷ xs) (y ∷ ys) z = ap suc (zip_length R xs ys z.1)

pub zip_in : {X : Type 0} (R : X → X → Type 0) (order : List ℕ) (xs ys : List X) → AllByRecursion (λ n. n < length xs) order → AllZip R xs ys → AllZip R (in_order order xs) (in_order order ys)
zip_in R [] xs ys all z = tt
zip_in {X} R (n ∷ ns) xs ys all z =
    let at = zip_at R xs ys n z all.0 in
    let P : Option X → Type 0 = λ o. AllZip R (option_to_list o ++ in_order ns xs) (at.1 ∷ in_order ns ys) in
    let Q : Option X → Type 0 = λ o. AllZip R (option_to_list (slice_get xs n) ++ in_order ns xs) (option_to_list o ++ in_order ns ys) in
    subst Q (sym at.3) (subst P (sym at.2) (at.4, zip_in R ns xs ys all.1 z))

-- ---- numbers of slots

apart_insert : (xs : List ℕ) (i c : ℕ) → IsApart xs → AllByRecursion (λ n. n < c) xs → IsApart (insert xs i c)
apart_insert [] zero c apart all = (tt, tt)
apart_insert [] (suc i) c apart all = (tt, tt)
apart_insert (x ∷ xs) zero c apart all =
    (all_weaker (λ n. n < c) (λ n. nat_eq n c ≡ false) (x ∷ xs) (λ n lt. ne_eqb n c (λ e. let same = e in absurd (omega (arith, lt, same)))) all, apart)
apart_insert (x ∷ xs) (suc i) c apart all =
    (all_insert (λ n. nat_eq n x ≡ false) xs i c apart.0 (let lt = all.0 in ne_eqb c x (λ e. let same = e in absurd (omega (arith, lt, same)))), apart_insert xs i c apart.1 all.1)

each_insert : (count : ℕ) (order : List ℕ) (i : ℕ) → i ≤ length order → ((n : ℕ) → n < count → (j : ℕ) × (j < length order) × (get_or order j 0 ≡ n))
    → (n : ℕ) → n < count + 1 → (j : ℕ) × (j < length (insert order i count)) × (get_or (insert order i count) j 0 ≡ n)
each_insert count order i le each n lt =
    let long = length-insert order i count le in
    elim (cases_lt n count) [
      | inl old ↦ (let at = each n old in
          let inside = at.1 in
          elim (cases_lt at.0 i) [
            | inl front ↦ (at.0, omega (arith, inside, long), get_or-insert_below order i count 0 at.0 front le ∙ at.2)
            | inr behind ↦ (at.0 + 1, omega (arith, inside, long), get_or-insert_above order i count 0 at.0 behind le ∙ at.2)
          ])
      | inr new ↦ (i, omega (arith, le, long), get_or-insert_at order i count 0 le ∙ (let e : count ≡ n = omega (arith, lt, new) in e))
    ]

pub arranged_none : IsArranged 0 []
arranged_none = record { within = tt; apart = tt; each = λ n lt. absurd (omega (arith, lt)) }

pub arranged_more : (count : ℕ) (order : List ℕ) (i : ℕ) → i ≤ length order → IsArranged count order → IsArranged (count + 1) (insert order i count)
arranged_more count order i le a = record {
  within = all_insert (λ n. n < count + 1) order i count (all_weaker (λ n. n < count) (λ n. n < count + 1) order (λ n lt. omega (arith, lt)) a.within) (omega arith);
  apart = apart_insert order i count a.apart a.within;
  each = each_insert count order i le a.each;
}
