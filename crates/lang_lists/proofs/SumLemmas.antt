-- What a sum over a list says of its elements, and what a filter leaves.
use Rattle.std.proofs.Common.{◌≡◌, ℕ, zero, suc, ◌+◌, ◌<◌, ◌≤◌, Bool, true, false, cond, List, [], ◌∷◌, length, get_or, take, drop, refl, sym, ap, ◌∙◌, inl, inr, arith}
use Rattle.std.specs.List.{filter, sum_by, Any, Contains}
use Rattle.std.proofs.lemmas.Bool.{cases_lt}
use Rattle.std.proofs.lemmas.List.Sums.{sum_by-cons}

-- ---- sums

pub count_all : {X : Type 0} (xs : List X) → sum_by (λ x. 1) xs ≡ length xs
count_all [] = refl
count_all (x ∷ xs) = let more = sum_by-cons (λ x. 1) x xs in let rest = count_all xs in omega arith

any_later : {X : Type 0} (P : X → Type 0) (x : X) (xs : List X) → Any P xs → Any P (x ∷ xs)
any_later P x xs (i, y, lt, is, holds) = (suc i, y, omega arith, is, holds)

-- where a sum isn't 0, some element adds to it
pub some_adds : {X : Type 0} (f : X → ℕ) (xs : List X) → 0 < sum_by f xs → Any (λ x. 0 < f x) xs
some_adds f [] h = absurd (omega (arith, h))
some_adds f (x ∷ xs) h = elim (cases_lt 0 (f x)) [
  | inl lt ↦ (0, x, omega arith, refl, lt)
  | inr ge ↦ any_later (λ x. 0 < f x) x xs (some_adds f xs (let more = sum_by-cons f x xs in omega arith))
]

-- ---- filters

later : {X : Type 0} (y x : X) (ys : List X) → Contains ys x → Contains (y ∷ ys) x
later y x ys (i, lt, is) = (suc i, omega arith, is)

kept_by : {X : Type 0} (b : Bool) (y x : X) (ys : List X) → Contains ys x → Contains (cond b (y ∷ ys) ys) x
kept_by true y x ys there = later y x ys there
kept_by false y x ys there = there

pub filter_keeps : {X : Type 0} (p : X → Bool) (xs : List X) (x : X) → Contains xs x → p x ≡ true → Contains (filter p xs) x
filter_keeps p [] x (i, lt, is) e = absurd (omega (arith, lt))
filter_keeps p (y ∷ ys) x (zero, lt, is) e = let here : p y ≡ true = ap p is ∙ e in rw here (0, omega arith, is)
filter_keeps p (y ∷ ys) x (suc i, lt, is) e = kept_by (p y) y x (filter p ys) (filter_keeps p ys x (i, omega arith, is) e)

-- an element of what a filter leaves is an element of the list, and passes
pub record IsKept {X : Type 0} (p : X → Bool) (xs : List X) (x : X) : Type 0 where
  pub there : Contains xs x
  pub passes : p x ≡ true

kept_of : {X : Type 0} (p : X → Bool) (b : Bool) (y x : X) (ys : List X) → p y ≡ b → Contains (cond b (y ∷ filter p ys) (filter p ys)) x → (Contains (filter p ys) x → IsKept p ys x) → IsKept p (y ∷ ys) x
kept_of p true y x ys e (zero, lt, is) more = record { there = (0, omega arith, is); passes = ap p (sym is) ∙ e }
kept_of p true y x ys e (suc i, lt, is) more = let rest = more (i, omega arith, is) in record { there = later y x ys rest.there; passes = rest.passes }
kept_of p false y x ys e there more = let rest = more there in record { there = later y x ys rest.there; passes = rest.passes }

pub filter_from : {X : Type 0} (p : X → Bool) (xs : List X) (x : X) → Contains (filter p xs) x → IsKept p xs x
filter_from p [] x (i, lt, is) = absurd (omega (arith, lt))
filter_from p (y ∷ ys) x there = kept_of p (p y) y x ys refl there (filter_from p ys x)

front : {X : Type 0} (xs : List X) (n : ℕ) → take n xs ≡ take n (drop 0 xs)
front [] n = refl
front (x ∷ xs) n = refl

-- what passes stands side by side, so many from a place on
pub filter_range : {X : Type 0} (p : X → Bool) (xs : List X) (low n : ℕ) → low + n ≤ length xs
    → ((i : ℕ) (d : X) → i < low → p (get_or xs i d) ≡ false) → ((i : ℕ) (d : X) → low ≤ i → i < low + n → p (get_or xs i d) ≡ true)
    → ((i : ℕ) (d : X) → low + n ≤ i → i < length xs → p (get_or xs i d) ≡ false) → take n (drop low xs) ≡ filter p xs
filter_range p [] zero zero within below here above = refl
filter_range p [] zero (suc n) within below here above = absurd (omega (arith, within))
filter_range p [] (suc low) n within below here above = absurd (omega (arith, within))
filter_range p (x ∷ xs) zero zero within below here above =
    let fails = above 0 x (omega arith) (omega arith) in
    rw fails (filter_range p xs 0 0 (omega arith) (λ i d lt. absurd (omega arith)) (λ i d from lt. absurd (omega arith)) (λ i d from lt. above (suc i) d (omega arith) (omega arith)))
filter_range p (x ∷ xs) zero (suc n) within below here above =
    let passes = here 0 x (omega arith) (omega arith) in
    let rest = filter_range p xs 0 n (omega arith) (λ i d lt. absurd (omega arith)) (λ i d from lt. here (suc i) d (omega arith) (omega arith)) (λ i d from lt. above (suc i) d (omega arith) (omega arith)) in
    rw passes (ap (λ l. x ∷ l) (front xs n ∙ rest))
filter_range p (x ∷ xs) (suc low) n within below here above =
    let fails = below 0 x (omega arith) in
    rw fails (filter_range p xs low n (omega arith) (λ i d lt. below (suc i) d (omega arith)) (λ i d from lt. here (suc i) d (omega arith) (omega arith)) (λ i d from lt. above (suc i) d (omega arith) (omega arith)))
