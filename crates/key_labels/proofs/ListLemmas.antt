-- Lists that are filtered, and fronts of lists.
use Rattle.std.proofs.Common.{◌≡◌, ℕ, zero, suc, Bool, true, false, ◌||◌, cond, List, [], ◌∷◌, length, map, take, refl, ap, arith}
use Rattle.std.specs.List.{filter, AllByRecursion}

filter_both : {X : Type 0} (p q : X → Bool) (x : X) (xs : List X) (b c : Bool) → p x ≡ b → q x ≡ c → filter p (filter q xs) ≡ filter q (filter p xs)
    → filter p (filter q (x ∷ xs)) ≡ filter q (filter p (x ∷ xs))
filter_both p q x xs true true e f h = rw (e, f, e) (ap (λ l. x ∷ l) h)
filter_both p q x xs true false e f h = rw (e, f) h
filter_both p q x xs false true e f h = rw (e, f, e) h
filter_both p q x xs false false e f h = rw (e, f) h

pub filter_filter : {X : Type 0} (p q : X → Bool) (xs : List X) → filter p (filter q xs) ≡ filter q (filter p xs)
filter_filter p q [] = refl
filter_filter p q (x ∷ xs) = filter_both p q x xs (p x) (q x) refl refl (filter_filter p q xs)

filter-map_by : {X Y : Type 0} (f : X → Y) (p : Y → Bool) (x : X) (xs : List X) (b : Bool) → p (f x) ≡ b → filter p (map f xs) ≡ map f (filter (λ x. p (f x)) xs)
    → filter p (map f (x ∷ xs)) ≡ map f (filter (λ x. p (f x)) (x ∷ xs))
filter-map_by f p x xs true e h = rw e (ap (λ l. f x ∷ l) h)
filter-map_by f p x xs false e h = rw e h

pub filter-map : {X Y : Type 0} (f : X → Y) (p : Y → Bool) (xs : List X) → filter p (map f xs) ≡ map f (filter (λ x. p (f x)) xs)
filter-map f p [] = refl
filter-map f p (x ∷ xs) = filter-map_by f p x xs (p (f x)) refl (filter-map f p xs)

pub all_if : {X : Type 0} (P : X → Type 0) (x : X) (xs : List X) (b : Bool) → (b ≡ true → P x) → AllByRecursion P xs → AllByRecursion P (cond b (x ∷ xs) xs)
all_if P x xs true here all = (here refl, all)
all_if P x xs false here all = all

pub all_kept : {X : Type 0} (P : X → Type 0) (p : X → Bool) (xs : List X) → AllByRecursion P xs → AllByRecursion P (filter p xs)
all_kept P p [] all = tt
all_kept P p (x ∷ xs) all = all_if P x (filter p xs) (p x) (λ e. all.0) (all_kept P p xs all.1)

pub take_whole : {X : Type 0} (xs : List X) (n : ℕ) → n ≡ length xs → take n xs ≡ xs
take_whole [] zero h = refl
take_whole [] (suc n) h = refl
take_whole (x ∷ xs) zero h = absurd (omega arith)
take_whole (x ∷ xs) (suc n) h = ap (λ l. x ∷ l) (take_whole xs n (omega arith))

pub either_by : (P : Type 0) (a b : Bool) → (a || b) ≡ true → (a ≡ true → P) → (b ≡ true → P) → P
either_by P true b h f g = f refl
either_by P false b h f g = g h
