-- Spots in a list of lists, some of which are live: where as many live ones are named as there are, none twice, each is named.
use Rattle.std.proofs.Common.{◌≡◌, ◌+◌, ◌≤◌, ◌∷◌, ◌++◌, [], ℕ, zero, suc, List, Option, Some, None, Bool, true, false, ◌&&◌, ◌||◌, length, sum_by, filter, cond, nat_eq, slice_get, refl, ap, sym, ◌∙◌, arith, length-append, true≢false, inl, inr, map}
use Rattle.std.specs.List.{list_all, list_any, AllByRecursion, IsDistinct}
use Rattle.std.specs.Cmp.{IsEquivalence, and_equiv, on_equiv, nat_eq_equiv}
use Rattle.std.proofs.lemmas.Bool.{cases_Bool}
use Rattle.std.proofs.lemmas.Bool.Decides.{nat_tests}
use Rattle.std.proofs.lemmas.Grind.{common_steps}
use Rattle.std.proofs.lemmas.List.Folds.{list_any-append, list_all-append}
use Rattle.std.proofs.lemmas.List.Sums.{sum_by-cons}
use Rattle.std.proofs.lemmas.List.{length-map}
use Rattle.std.proofs.lemmas.Map.Keys.{IsDistinct-push}
use Rattle.std.proofs.lemmas.Map.Made.{length-le_from_is_member}
use Rattle.std.proofs.lemmas.Map.Steps.{list_any_congr}

-- a list among the lists, and a place in it
abbrev pub Spot : Type 0
Spot = ℕ × ℕ

abbrev pub same_spot : Spot → Spot → Bool
same_spot p q = nat_eq p.0 q.0 && nat_eq p.1 q.1

pub same_spot_equiv : IsEquivalence same_spot
same_spot_equiv = and_equiv (on_equiv (λ (p : Spot). p.0) nat_eq_equiv) (on_equiv (λ (p : Spot). p.1) nat_eq_equiv)

same_here : (k i : ℕ) → same_spot (k, i) (k, i) ≡ true
same_here k i = grind (arith, nat_tests)

abbrev is_live_in : {X : Type 0} → (X → Bool) → Option X → Bool
is_live_in live None = false
is_live_in live (Some x) = live x

abbrev is_live_of : {X : Type 0} → (X → Bool) → ℕ → Option (List X) → Bool
is_live_of live i None = false
is_live_of live i (Some xs) = is_live_in live (slice_get xs i)

-- what stands there is live
abbrev pub is_live_at : {X : Type 0} → (X → Bool) → List (List X) → Spot → Bool
is_live_at live xss p = is_live_of live p.1 (slice_get xss p.0)

-- how many are live
abbrev pub lives : {X : Type 0} → (X → Bool) → List X → ℕ
lives live xs = length (filter live xs)

-- ---- all live spots

abbrev due_rows : {X : Type 0} → (X → Bool) → ℕ → ℕ → List X → List Spot
due_rows live k i [] = []
due_rows live k i (x ∷ xs) = cond (live x) ((k, i) ∷ due_rows live k (i + 1) xs) (due_rows live k (i + 1) xs)

abbrev due_from : {X : Type 0} → (X → Bool) → ℕ → List (List X) → List Spot
due_from live k [] = []
due_from live k (xs ∷ rest) = due_rows live k 0 xs ++ due_from live (k + 1) rest

due_rows-length : {X : Type 0} (live : X → Bool) (k i : ℕ) (xs : List X) → length (due_rows live k i xs) ≡ lives live xs
due_rows-length live k i [] = refl
due_rows-length live k i (x ∷ xs) = elim (cases_Bool (live x)) [
  | inl is ↦ rw is (omega (arith, due_rows-length live k (i + 1) xs))
  | inr differs ↦ rw differs (due_rows-length live k (i + 1) xs)
]

due_from-length : {X : Type 0} (live : X → Bool) (k : ℕ) (xss : List (List X)) → length (due_from live k xss) ≡ sum_by (lives live) xss
due_from-length live k [] = refl
due_from-length live k (xs ∷ rest) =
    omega (arith, length-append (due_rows live k 0 xs) (due_from live (k + 1) rest), due_rows-length live k 0 xs, due_from-length live (k + 1) rest, sum_by-cons (lives live) xs rest)

-- ---- a live spot is one of them

more_any : (b : Bool) (p : Spot → Bool) (x : Spot) (xs : List Spot) → list_any p xs ≡ true → list_any p (cond b (x ∷ xs) xs) ≡ true
more_any true p x xs h = grind (arith, common_steps)
more_any false p x xs h = h

first_any : (b : Bool) (p : Spot → Bool) (x : Spot) (xs : List Spot) → b ≡ true → p x ≡ true → list_any p (cond b (x ∷ xs) xs) ≡ true
first_any true p x xs h k = grind (arith, common_steps)
first_any false p x xs h k = absurd (true≢false (sym h))

at_spot : (p : Spot) (k i : ℕ) → p.0 ≡ k → p.1 ≡ i → same_spot p (k, i) ≡ true
at_spot p k i a b = grind (arith, nat_tests)

row_due : {X : Type 0} (live : X → Bool) (k i n : ℕ) (xs : List X) (p : Spot) → is_live_in live (slice_get xs n) ≡ true → p.0 ≡ k → p.1 ≡ i + n
    → list_any (same_spot p) (due_rows live k i xs) ≡ true
row_due live k i n [] p h a b = absurd (true≢false (sym h))
row_due live k i zero (x ∷ xs) p h a b =
    first_any (live x) (same_spot p) (k, i) (due_rows live k (i + 1) xs) h (at_spot p k i a (omega arith))
row_due live k i (suc n) (x ∷ xs) p h a b =
    more_any (live x) (same_spot p) (k, i) (due_rows live k (i + 1) xs) (row_due live k (i + 1) n xs p h a (omega arith))

list_due : {X : Type 0} (live : X → Bool) (k n : ℕ) (xss : List (List X)) (p : Spot) → is_live_of live p.1 (slice_get xss n) ≡ true → p.0 ≡ k + n
    → list_any (same_spot p) (due_from live k xss) ≡ true
list_due live k n [] p h a = absurd (true≢false (sym h))
list_due live k zero (xs ∷ rest) p h a =
    let here = row_due live k 0 p.1 xs p h (omega arith) (omega arith) in
    list_any-append (same_spot p) (due_rows live k 0 xs) (due_from live (k + 1) rest) ∙ ap (λ b. b || list_any (same_spot p) (due_from live (k + 1) rest)) here
list_due live k (suc n) (xs ∷ rest) p h a =
    let there = list_due live (k + 1) n rest p h (omega arith) in
    grind (arith, common_steps, list_any-append (same_spot p) (due_rows live k 0 xs) (due_from live (k + 1) rest), there)

live_due : {X : Type 0} (live : X → Bool) (xss : List (List X)) (p : Spot) → is_live_at live xss p ≡ true → list_any (same_spot p) (due_from live 0 xss) ≡ true
live_due live xss p h = list_due live 0 p.0 xss p h (omega arith)

-- ---- as many as there are

-- where each of some spots is live, so is what is one of them
covered : {X : Type 0} (live : X → Bool) (xss : List (List X)) (ps : List Spot) (q : Spot) → list_all (is_live_at live xss) ps ≡ true → list_any (same_spot q) ps ≡ true
    → list_any (same_spot q) (due_from live 0 xss) ≡ true
covered live xss [] q all m = absurd (true≢false (sym m))
covered live xss (p ∷ ps) q all m = elim (cases_Bool (same_spot q p)) [
  | inl is ↦ list_any_congr same_spot_equiv q p (due_from live 0 xss) is ∙ live_due live xss p (grind (arith, common_steps))
  | inr differs ↦ covered live xss ps q (grind (arith, common_steps)) (rw differs at m)
]

at_most : {X : Type 0} (live : X → Bool) (xss : List (List X)) (ps : List Spot) → list_all (is_live_at live xss) ps ≡ true → IsDistinct same_spot ps
    → length ps ≤ sum_by (lives live) xss
at_most live xss ps all once =
    let few = length-le_from_is_member same_spot_equiv ps (due_from live 0 xss) once (λ q m. covered live xss ps q all m) in
    omega (arith, few, due_from-length live 0 xss)

-- were a live one not named, there were more than there are
each_named : {X : Type 0} (live : X → Bool) (xss : List (List X)) (ps : List Spot) → list_all (is_live_at live xss) ps ≡ true → IsDistinct same_spot ps
    → length ps ≡ sum_by (lives live) xss → (q : Spot) → is_live_at live xss q ≡ true → list_any (same_spot q) ps ≡ true
each_named live xss ps all once many q h = elim (cases_Bool (list_any (same_spot q) ps)) [
  | inl is ↦ is
  | inr none ↦
      let more = at_most live xss (ps ++ q ∷ []) (grind (arith, common_steps, list_all-append (is_live_at live xss) ps (q ∷ []))) (IsDistinct-push same_spot_equiv ps q once none) in
      absurd (omega (arith, more, many, length-append ps (q ∷ [])))
]

-- ---- things that name spots

-- one of these that names a spot
pub record Found {A : Type 0} (f : A → Spot) (named : List A) (q : Spot) : Type 0 where
  pub thing : A
  pub at : ℕ
  pub there : slice_get named at ≡ Some thing
  pub list : (f thing).0 ≡ q.0
  pub place : (f thing).1 ≡ q.1

-- each names a live spot
abbrev pub NameLive : {A X : Type 0} → (X → Bool) → List (List X) → (A → Spot) → List A → Type 0
NameLive {A} live xss f named = (at : ℕ) (a : A) → slice_get named at ≡ Some a → is_live_at live xss (f a) ≡ true

-- no two name one spot
abbrev pub NameApart : {A : Type 0} → (A → Spot) → List A → Type 0
NameApart {A} f named =
    (at other : ℕ) (a b : A) → slice_get named at ≡ Some a → slice_get named other ≡ Some b → same_spot (f a) (f b) ≡ true → at ≡ other

all_live : {A X : Type 0} (live : X → Bool) (xss : List (List X)) (f : A → Spot) (named : List A) → NameLive live xss f named
    → list_all (is_live_at live xss) (map f named) ≡ true
all_live live xss f [] h = refl
all_live live xss f (a ∷ named) h =
    let rest = all_live live xss f named (λ at b there. h (suc at) b there) in
    let first = h 0 a refl in
    grind (arith, common_steps, first, rest)

not_this : {A : Type 0} (f : A → Spot) (a b : A) (at : ℕ) → (same_spot (f a) (f b) ≡ true → 0 ≡ suc at) → same_spot (f a) (f b) ≡ false
not_this f a b at h = elim (cases_Bool (same_spot (f a) (f b))) [
  | inl is ↦ absurd (omega (arith, h is))
  | inr differs ↦ differs
]

none_like : {A : Type 0} (f : A → Spot) (a : A) (named : List A) (from : ℕ) → ((at : ℕ) (b : A) → slice_get named at ≡ Some b → same_spot (f a) (f b) ≡ true → 0 ≡ suc (from + at))
    → AllByRecursion (λ q. same_spot (f a) q ≡ false) (map f named)
none_like f a [] from h = tt
none_like f a (b ∷ named) from h = (
  not_this f a b (from + 0) (λ same. h 0 b refl same),
  none_like f a named (suc from) (λ at c there same. absurd (omega (arith, h (suc at) c there same))),
)

apart_distinct : {A : Type 0} (f : A → Spot) (named : List A) → NameApart f named → IsDistinct same_spot (map f named)
unfolding IsDistinct
apart_distinct f [] h = tt
apart_distinct f (a ∷ named) h = (
  none_like f a named 0 (λ at b there same. omega (arith, h 0 (suc at) a b refl there same)),
  apart_distinct f named (λ at other b c here there same. omega (arith, h (suc at) (suc other) b c here there same)),
)

pub spots_same : (p q : Spot) → same_spot p q ≡ true → (q.0 ≡ p.0) × (q.1 ≡ p.1)
spots_same p q h = (grind (arith, common_steps, nat_tests), grind (arith, common_steps, nat_tests))

find_named : {A : Type 0} (f : A → Spot) (named : List A) (q : Spot) → list_any (same_spot q) (map f named) ≡ true → Found f named q
find_named f [] q h = absurd (true≢false (sym h))
find_named f (a ∷ named) q h = elim (cases_Bool (same_spot q (f a))) [
  | inl is ↦
      let same = spots_same q (f a) is in
      record { thing = a; at = 0; there = refl; list = same.0; place = same.1 }
  | inr differs ↦
      let more = find_named f named q (rw differs at h) in
      record { thing = more.thing; at = suc more.at; there = more.there; list = more.list; place = more.place }
]

-- where no two of these name one spot, each names a live one, and they are as many as there are live ones, each live one is named
pub each_found : {A X : Type 0} (live : X → Bool) (xss : List (List X)) (f : A → Spot) (named : List A) → NameLive live xss f named → NameApart f named
    → length named ≡ sum_by (lives live) xss → (q : Spot) → is_live_at live xss q ≡ true → Found f named q
each_found live xss f named all apart many q h =
    find_named f named q
    (each_named live xss (map f named) (all_live live xss f named all) (apart_distinct f named apart) (length-map named f ∙ many) q h)

-- and they are no more than there are live ones
pub few_named : {A X : Type 0} (live : X → Bool) (xss : List (List X)) (f : A → Spot) (named : List A) → NameLive live xss f named → NameApart f named
    → length named ≤ sum_by (lives live) xss
few_named live xss f named all apart =
    let few = at_most live xss (map f named) (all_live live xss f named all) (apart_distinct f named apart) in
    omega (arith, few, length-map named f)
