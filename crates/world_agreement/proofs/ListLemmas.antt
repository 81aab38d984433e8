-- What is in a list, what is found there, and what a filter keeps.
use Rattle.std.proofs.Common.{◌≡◌, zero, suc, Bool, true, List, [], ◌∷◌, Option, Some, None, IsSome, IsSomeAnd, All, AllPairs, Any, Contains, find, filter, map, option_map, inl, inr, refl, sym, ap, subst, arith}
use Rattle.std.proofs.lemmas.Bool.{cases_Bool}
use Rattle.std.proofs.lemmas.List.Elements.{All-nil, All-cons, Contains-get_or, Contains-append_right}
use Rattle.service_events.proofs.SearchLemmas.{splits, none_first, contains_here, contains_cases}

-- ---- what is there

pub some_out : {X : Type 0} (o : Option X) (P : X → Type 0) → IsSomeAnd o P → (x : X) × (o ≡ Some x) × P x
some_out None P h = absurd h
some_out (Some x) P h = (x, refl, h)

pub some_of : {X : Type 0} (o : Option X) → IsSome o → (x : X) × (o ≡ Some x)
some_of None h = cc
some_of (Some x) h = (x, refl)

pub some_is : {X : Type 0} (x y : X) → Some x ≡ Some y → x ≡ y
some_is x y e = cc

-- what holds of each that is there holds of all
pub all_from : {X : Type 0} (P : X → Type 0) (xs : List X) → ((x : X) → Contains xs x → P x) → All P xs
all_from P xs f k d l = f _ (Contains-get_or xs k d l)

pub any_from : {X : Type 0} (P : X → Type 0) (xs : List X) (x : X) → Contains xs x → P x → Any P xs
any_from P xs x h p = (h.0, x, h.1, h.2, p)

pub contains_map : {X Y : Type 0} (f : X → Y) (xs : List X) (x : X) → Contains xs x → Contains (map f xs) (f x)
contains_map f [] x h = absurd (omega (arith, h.1))
contains_map f (y ∷ ys) x h = elim (contains_cases y x ys h) [
  | inl is ↦ subst (Contains (map f (y ∷ ys))) (ap f is) (contains_here (f y) (map f ys))
  | inr later ↦ Contains-append_right (f y ∷ []) (map f ys) (f x) (contains_map f ys x later)
]

-- ---- what is found

pub found_in : {X : Type 0} (p : X → Bool) (xs : List X) (x : X) → find p xs ≡ Some x → Contains xs x
found_in p xs x e =
    let s = splits p xs x e in
    subst (λ zs. Contains zs x) (sym s.is) (Contains-append_right s.before (x ∷ s.rest) x (contains_here x s.rest))

pub found_passes : {X : Type 0} (p : X → Bool) (xs : List X) (x : X) → find p xs ≡ Some x → p x ≡ true
found_passes p xs x e = (splits p xs x e).passes

pub find_map : {X Y : Type 0} (p : Y → Bool) (f : X → Y) (xs : List X) → find p (map f xs) ≡ option_map f (find (λ x. p (f x)) xs)
find_map p f [] = refl
find_map p f (x ∷ xs) = elim (cases_Bool (p (f x))) [
  | inl is ↦ rw is refl
  | inr other ↦ rw other (find_map p f xs)
]

-- ---- what a filter keeps

pub filter_none : {X : Type 0} (p : X → Bool) (xs : List X) → find p xs ≡ None → filter p xs ≡ []
filter_none p [] h = refl
filter_none p (x ∷ xs) h =
    let parts = none_first (p x) x (find p xs) h in rw parts.0 (filter_none p xs parts.1)

pub filter_map_is : {X Y : Type 0} (p : Y → Bool) (f : X → Y) (xs : List X) → filter p (map f xs) ≡ map f (filter (λ x. p (f x)) xs)
filter_map_is p f [] = refl
filter_map_is p f (x ∷ xs) = elim (cases_Bool (p (f x))) [
  | inl is ↦ rw is (ap (λ ys. f x ∷ ys) (filter_map_is p f xs))
  | inr other ↦ rw other (filter_map_is p f xs)
]

-- ---- lists of one and two

pub all_one : {X : Type 0} (P : X → Type 0) (x : X) → P x → All P (x ∷ [])
all_one P x p = All-cons P x [] p (All-nil P)

pub all_two : {X : Type 0} (P : X → Type 0) (x y : X) → P x → P y → All P (x ∷ (y ∷ []))
all_two P x y p q = All-cons P x (y ∷ []) p (all_one P y q)

pub no_pairs : {X : Type 0} (R : X → X → Type 0) → AllPairs R []
no_pairs R i j d l w = absurd (omega (arith, l, w))

pub one_pair : {X : Type 0} (R : X → X → Type 0) (x y : X) → R x y → AllPairs R (x ∷ (y ∷ []))
one_pair R x y r zero zero d l w = absurd (omega (arith, l))
one_pair R x y r zero (suc zero) d l w = r
one_pair R x y r zero (suc (suc j)) d l w = absurd (omega (arith, w))
one_pair R x y r (suc i) zero d l w = absurd (omega (arith, l))
one_pair R x y r (suc i) (suc j) d l w = absurd (omega (arith, l, w))
