-- A test that passes at a front of all numbers, looked for first among the blocks and then in one of them.
use Rattle.std.proofs.Common.{◌≡◌, ℕ, zero, suc, ◌+◌, ◌-◌, ◌<◌, ◌≤◌, Bool, true, false, List, [], ◌∷◌, ◌++◌, length, get_or, refl, sym, ap, ◌∙◌, subst, inl, inr, arith}
use Rattle.std.specs.List.{concat, AllByRecursion, Contains}
use Rattle.std.specs.List.Sorted.{IsPartitionedBy, IsPartitionPoint}
use Rattle.std.proofs.lemmas.Bool.{cases_Bool, cases_lt, both_ways}
use Rattle.std.proofs.lemmas.List.{get_or_default}
use Rattle.number_blocks.specs.Blocks.{start_of, begins}
use Rattle.number_blocks.proofs.BlockLemmas.{end_start, next_start, number_at, rising, start_within}

-- where a test holds at a front of a list, its end is where it holds for the last time
point_from : {X : Type 0} (p : X → Bool) (xs : List X) (n : ℕ) → n ≤ length xs → IsPartitionedBy p xs → ((d : X) → 0 < n → p (get_or xs (n - 1) d) ≡ true)
    → ((d : X) → n < length xs → p (get_or xs n d) ≡ false) → IsPartitionPoint (λ x. p x ≡ true) (λ x. p x ≡ false) xs n
point_from p xs n within parted last next = (
  λ k d from to. parted k (n - 1) d (omega (arith, to)) (omega (arith, to, within)) (last d (omega (arith, to))),
  λ k d from to. elim (cases_Bool (p (get_or xs k d))) [
    | inl holds ↦ absurd (both_ways (p (get_or xs n d)) (next d (omega (arith, from, to))) (parted n k d from to holds))
    | inr fails ↦ fails
  ],
)

begins_is : (p : ℕ → Bool) (b : List ℕ) → 0 < length b → begins p b ≡ p (get_or b 0 0)
begins_is p [] some = absurd (omega (arith, some))
begins_is p (x ∷ xs) some = refl

some_at : (bs : List (List ℕ)) (n : ℕ) → AllByRecursion (λ b. 0 < length b) bs → n < length bs → 0 < length (get_or bs n [])
some_at [] n all lt = absurd (omega (arith, lt))
some_at (b ∷ bs) zero all lt = all.0
some_at (b ∷ bs) (suc n) all lt = some_at bs n all.1 (omega (arith, lt))

pub some_in : (bs : List (List ℕ)) (b : List ℕ) → AllByRecursion (λ b. 0 < length b) bs → Contains bs b → 0 < length b
some_in [] b all (i, lt, is) = absurd (omega (arith, lt))
some_in (c ∷ bs) b all (zero, lt, is) = let P : List ℕ → Type 0 = λ l. 0 < length l in subst P is all.0
some_in (c ∷ bs) b all (suc i, lt, is) = some_in bs b all.1 (i, omega (arith, lt), is)

all_left : (P : ℕ → Type 0) (xs ys : List ℕ) → AllByRecursion P (xs ++ ys) → AllByRecursion P xs
all_left P [] ys all = tt
all_left P (x ∷ xs) ys all = (all.0, all_left P xs ys all.1)

all_right : (P : ℕ → Type 0) (xs ys : List ℕ) → AllByRecursion P (xs ++ ys) → AllByRecursion P ys
all_right P [] ys all = all
all_right P (x ∷ xs) ys all = all_right P xs ys all.1

pub all_in : (P : ℕ → Type 0) (bs : List (List ℕ)) (b : List ℕ) → AllByRecursion P (concat bs) → Contains bs b → AllByRecursion P b
all_in P [] b all (i, lt, is) = absurd (omega (arith, lt))
all_in P (c ∷ bs) b all (zero, lt, is) = let Q : List ℕ → Type 0 = λ l. AllByRecursion P l in subst Q is (all_left P c (concat bs) all)
all_in P (c ∷ bs) b all (suc i, lt, is) = all_in P bs b (all_right P c (concat bs) all) (i, omega (arith, lt), is)

pub all_at : (P : ℕ → Type 0) (bs : List (List ℕ)) (n : ℕ) → AllByRecursion P (concat bs) → n < length bs → AllByRecursion P (get_or bs n [])
all_at P [] n all lt = absurd (omega (arith, lt))
all_at P (b ∷ bs) zero all lt = all_left P b (concat bs) all
all_at P (b ∷ bs) (suc n) all lt = all_at P bs n (all_right P b (concat bs) all) (omega (arith, lt))

module _ (p : ℕ → Bool) (bs : List (List ℕ)) (all : AllByRecursion (λ b. 0 < length b) bs) where
  begins_at : (n : ℕ) (d : List ℕ) → n < length bs → begins p (get_or bs n d) ≡ p (get_or (concat bs) (start_of n bs) 0)
  begins_at n d lt =
      let some = some_at bs n all lt in
      let at : start_of n bs + 0 ≡ start_of n bs = omega arith in
      ap (begins p) (get_or_default bs n d [] lt) ∙ begins_is p (get_or bs n []) some ∙ ap p (sym (number_at bs n 0 0 lt some) ∙ ap (λ i. get_or (concat bs) i 0) at)

  start_inside : (n : ℕ) → n < length bs → start_of n bs < length (concat bs)
  start_inside n lt =
      let some = some_at bs n all lt in
      let next = next_start bs n lt in
      let within = start_within bs (suc n) in
      omega (arith, some, next, within)

  module _ (parted : IsPartitionedBy p (concat bs)) where
    pub blocks_parted : IsPartitionedBy (begins p) bs
    blocks_parted i j d le lt h =
        begins_at i d (omega (arith, le, lt)) ∙ parted (start_of i bs) (start_of j bs) 0 (rising bs i j le) (start_inside j lt) (sym (begins_at j d lt) ∙ h)

    pub block_parted : (n : ℕ) → n < length bs → IsPartitionedBy p (get_or bs n [])
    block_parted n lt i j d le inside h =
        let next = next_start bs n lt in
        let within = start_within bs (suc n) in
        ap p (sym (number_at bs n i d lt (omega (arith, le, inside))))
        ∙ parted (start_of n bs + i) (start_of n bs + j) d (omega (arith, le)) (omega (arith, next, within, inside)) (ap p (number_at bs n j d lt inside) ∙ h)

    -- no block begins at a number that passes
    pub none_before : (c : ℕ) → c ≡ 0 → IsPartitionPoint (λ b. begins p b ≡ true) (λ b. begins p b ≡ false) bs c → IsPartitionPoint (λ n. p n ≡ true) (λ n. p n ≡ false) (concat bs) 0
    none_before c is point = point_from p (concat bs) 0 (omega arith) parted (λ d lt. absurd (omega (arith, lt))) (λ d lt. first d lt)
      where
        first : (d : ℕ) → 0 < length (concat bs) → p (get_or (concat bs) 0 d) ≡ false
        first d lt = elim (cases_lt 0 (length bs)) [
          | inl some ↦ (let zeroth : start_of 0 bs ≡ 0 = refl in
              ap p (get_or_default (concat bs) 0 d 0 lt) ∙ ap (λ i. p (get_or (concat bs) i 0)) (sym zeroth) ∙ sym (begins_at 0 [] some) ∙ point.1 0 [] (omega (arith, is)) some)
          | inr none ↦ (let whole = end_start bs 0 none in let zeroth : start_of 0 bs ≡ 0 = refl in absurd (omega (arith, lt, whole, zeroth)))
        ]

    module _ (c block f : ℕ) (within : c ≤ length bs) (is : block ≡ c - 1) (some : 0 < c) (point : IsPartitionPoint (λ b. begins p b ≡ true) (λ b. begins p b ≡ false) bs c)
        (less : f ≤ length (get_or bs block [])) (inner : IsPartitionPoint (λ n. p n ≡ true) (λ n. p n ≡ false) (get_or bs block []) f) where
      inside : block < length bs
      inside = omega (arith, within, is, some)

      pub found_within : start_of block bs + f ≤ length (concat bs)
      found_within = let next = next_start bs block inside in let all_of = start_within bs (suc block) in omega (arith, next, all_of, less)

      some_found : 0 < f
      some_found = elim (cases_lt 0 f) [
        | inl lt ↦ lt
        | inr none ↦ (let here = some_at bs block all inside in
            absurd (both_ways (p (get_or (get_or bs block []) 0 0)) (inner.1 0 0 (omega (arith, none)) here)
            (sym (begins_is p (get_or bs block []) here) ∙ point.0 block [] (omega arith) (omega (arith, is, some)))))
      ]

      last : (d : ℕ) → 0 < start_of block bs + f → p (get_or (concat bs) (start_of block bs + f - 1) d) ≡ true
      last d lt =
          let found = some_found in
          let at : start_of block bs + f - 1 ≡ start_of block bs + (f - 1) = omega (arith, found) in
          ap (λ i. p (get_or (concat bs) i d)) at ∙ ap p (number_at bs block (f - 1) d inside (omega (arith, found, less))) ∙ inner.0 (f - 1) d (omega arith) (omega (arith, found))

      next_number : (d : ℕ) → start_of block bs + f < length (concat bs) → p (get_or (concat bs) (start_of block bs + f) d) ≡ false
      next_number d lt = elim (cases_lt f (length (get_or bs block []))) [
        | inl here ↦ ap p (number_at bs block f d inside here) ∙ inner.1 f d (omega arith) here
        | inr past ↦ (let next = next_start bs block inside in
            let behind : suc block ≡ c = omega (arith, is, some) in
            let at : start_of block bs + f ≡ start_of c bs = (let e : start_of block bs + f ≡ start_of (suc block) bs = omega (arith, next, past, less) in e ∙ ap (λ k. start_of k bs) behind) in
            elim (cases_lt c (length bs)) [
              | inl more ↦ ap p (get_or_default (concat bs) (start_of block bs + f) d 0 lt) ∙ ap (λ i. p (get_or (concat bs) i 0)) at ∙ sym (begins_at c [] more) ∙ point.1 c [] (omega arith) more
              | inr none ↦ (let whole = end_start bs c none in absurd (omega (arith, lt, at, whole)))
            ])
      ]

      pub found : IsPartitionPoint (λ n. p n ≡ true) (λ n. p n ≡ false) (concat bs) (start_of block bs + f)
      found = point_from p (concat bs) (start_of block bs + f) found_within parted last next_number
