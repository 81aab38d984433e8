-- Where something stands last, and what a search from there on passes over.
use Rattle.std.proofs.Common.{◌≡◌, ℕ, zero, suc, ◌≤◌, Bool, true, false, cond, List, [], ◌∷◌, ◌++◌, length, take, get_or, map, fold, refl, ap, ◌∙◌, arith}
use Rattle.lang_lists.specs.Ends.{end_behind, last_end}

behind_within : (b : Bool) (e n : ℕ) → e ≤ n → end_behind b e ≤ suc n
behind_within true zero n h = omega arith
behind_within false zero n h = omega arith
behind_within b (suc e) n h = omega arith

pub last_end-within : {X : Type 0} (p : X → Bool) (xs : List X) → last_end p xs ≤ length xs
last_end-within p [] = omega arith
last_end-within p (x ∷ xs) = behind_within (p x) (last_end p xs) (length xs) (last_end-within p xs)

behind_last : (b c : Bool) (n e : ℕ) → end_behind b (cond c (suc n) e) ≡ cond c (suc (suc n)) (end_behind b e)
behind_last b true n e = refl
behind_last b false n e = refl

-- one element more
pub last_end-append : {X : Type 0} (p : X → Bool) (xs : List X) (y : X) → last_end p (xs ++ y ∷ []) ≡ cond (p y) (suc (length xs)) (last_end p xs)
last_end-append p [] y = refl
last_end-append p (x ∷ xs) y = ap (end_behind (p x)) (last_end-append p xs y) ∙ behind_last (p x) (p y) (length xs) (last_end p xs)

narrow_head : {X : Type 0} (p : X → Bool) (c : Bool) (e : ℕ) (x : X) (xs : List X) → (c ≡ false → p x ≡ false) → last_end p xs ≡ last_end p (take e xs)
    → end_behind (p x) (last_end p xs) ≡ last_end p (take (end_behind c e) (x ∷ xs))
narrow_head p c (suc e) x xs h later = ap (end_behind (p x)) later
narrow_head p true zero x xs h later = ap (end_behind (p x)) later
narrow_head p false zero x xs h later = ap (end_behind (p x)) later ∙ ap (λ b. end_behind b 0) (h refl)

-- the last that passes is among those up to the last that passes a weaker test
pub last_end-narrow : {X : Type 0} (p q : X → Bool) → ((x : X) → q x ≡ false → p x ≡ false) → (xs : List X) → last_end p xs ≡ last_end p (take (last_end q xs) xs)
last_end-narrow p q h [] = refl
last_end-narrow p q h (x ∷ xs) = narrow_head p (q x) (last_end q xs) x xs (h x) (last_end-narrow p q h xs)

skip_head : {X S : Type 0} (step : S → X → S) (c : Bool) (e : ℕ) (x : X) (xs : List X) (s : S) → (c ≡ false → step s x ≡ s)
    → fold step (step s x) xs ≡ fold step (step s x) (take e xs)
    → fold step s (x ∷ xs) ≡ fold step s (take (end_behind c e) (x ∷ xs))
skip_head step c (suc e) x xs s h later = later
skip_head step true zero x xs s h later = later
skip_head step false zero x xs s h later = later ∙ h refl

-- a fold that what fails leaves as it is looks at no element behind the last that passes
pub fold_skips : {X S : Type 0} (step : S → X → S) (p : X → Bool) → ((s : S) (x : X) → p x ≡ false → step s x ≡ s) → (xs : List X) (s : S)
    → fold step s xs ≡ fold step s (take (last_end p xs) xs)
fold_skips step p h [] s = refl
fold_skips step p h (x ∷ xs) s = skip_head step (p x) (last_end p xs) x xs s (h s x) (fold_skips step p h xs (step s x))

passes_head : {X : Type 0} (p : X → Bool) (b : Bool) (e n : ℕ) (x d : X) (xs : List X) → p x ≡ b → end_behind b e ≡ suc n
    → ((m : ℕ) → e ≡ suc m → p (get_or xs m d) ≡ true) → p (get_or (x ∷ xs) n d) ≡ true
passes_head p b (suc e) zero x d xs is at later = cc
passes_head p b (suc e) (suc n) x d xs is at later = later n (cc)
passes_head p true zero zero x d xs is at later = is
passes_head p true zero (suc n) x d xs is at later = cc
passes_head p false zero n x d xs is at later = cc

-- what stands at the end passes
pub last_passes : {X : Type 0} (p : X → Bool) (xs : List X) (d : X) (n : ℕ) → last_end p xs ≡ suc n → p (get_or xs n d) ≡ true
last_passes p [] d n h = cc
last_passes p (x ∷ xs) d n h = passes_head p (p x) (last_end p xs) n x d xs refl h (last_passes p xs d)

pub last_end-map : {X Y : Type 0} (p : Y → Bool) (f : X → Y) (xs : List X) → last_end p (map f xs) ≡ last_end (λ x. p (f x)) xs
last_end-map p f [] = refl
last_end-map p f (x ∷ xs) = ap (end_behind (p (f x))) (last_end-map p f xs)
