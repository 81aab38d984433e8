-- A name behind a chain leaves fewer names, and a call into a longer chain costs less.
use Rattle.std.proofs.Common.{◌≡◌, ℕ, zero, suc, ◌+◌, ◌-◌, ◌*◌, ◌<◌, ◌≤◌, Bool, true, false, ◌||◌, List, [], ◌∷◌, ◌++◌, refl, sym, ◌∙◌, subst, arith, if◌then◌else◌, sum_by}
use Rattle.std.proofs.Math.Nat.{mul-le-mul_left}
use Rattle.std.proofs.lemmas.List.Folds.{list_any-append}
use Rattle.std.proofs.lemmas.List.Sums.{sum_by-cons, sum_by-append}
use Rattle.std.proofs.lemmas.Slice.Eq.{bytes_eq-Decides}
use Rattle.lang_base.specs.Texts.{same_text}
use Rattle.service_events.proofs.SearchLemmas.{text_is}
use Rattle.world_laws.proofs.Weights.{is_among, left_by, cost}

-- ---- names that are left

or_none : (a b : Bool) → (a || (b || false)) ≡ (a || b)
or_none true b = refl
or_none false true = refl
or_none false false = refl

among_more : (n d : List ℕ) (chain : List (List ℕ)) → is_among n (chain ++ d ∷ []) ≡ (is_among n chain || same_text d n)
among_more n d chain = list_any-append (λ m. same_text m n) chain (d ∷ []) ∙ or_none (is_among n chain) (same_text d n)

no_more : (a b : Bool) (j k : ℕ) → j ≤ k → (if a || b then j else suc j) ≤ (if a then k else suc k)
no_more true b j k h = h
no_more false true j k h = omega (arith, h)
no_more false false j k h = omega (arith, h)

left_more : (d : List ℕ) (chain names : List (List ℕ)) → left_by (chain ++ d ∷ []) names ≤ left_by chain names
left_more d chain [] = omega arith
left_more d chain (n ∷ names) =
    rw (among_more n d chain) (no_more (is_among n chain) (same_text d n) (left_by (chain ++ d ∷ []) names) (left_by chain names) (left_more d chain names))

less_here : (a b : Bool) (j k : ℕ) → a ≡ false → b ≡ true → j ≤ k → (if a || b then j else suc j) < (if a then k else suc k)
less_here true b j k ha hb h = cc
less_here false true j k ha hb h = omega (arith, h)
less_here false false j k ha hb h = cc

less_there : (a b : Bool) (j k : ℕ) → j < k → (if a || b then j else suc j) < (if a then k else suc k)
less_there true b j k h = h
less_there false true j k h = omega (arith, h)
less_there false false j k h = omega (arith, h)

left_fewer : (q : Bool) (d n : List ℕ) (chain names : List (List ℕ)) → same_text n d ≡ q → (q || is_among d names) ≡ true → is_among d chain ≡ false
    → (is_among d names ≡ true → left_by (chain ++ d ∷ []) names < left_by chain names) → left_by (chain ++ d ∷ []) (n ∷ names) < left_by chain (n ∷ names)
left_fewer true d n chain names same among fresh rest =
    let is : n ≡ d = text_is n d same in
    let F : List ℕ → Type 0 = λ t. is_among t chain ≡ false in
    let here : is_among n chain ≡ false = subst F (sym is) fresh in
    let S : List ℕ → Type 0 = λ t. same_text d t ≡ true in
    let back : same_text d n ≡ true = subst S (sym is) ((bytes_eq-Decides d d).1 refl) in
    rw (among_more n d chain) (less_here (is_among n chain) (same_text d n) (left_by (chain ++ d ∷ []) names) (left_by chain names) here back (left_more d chain names))
left_fewer false d n chain names same among fresh rest =
    rw (among_more n d chain) (less_there (is_among n chain) (same_text d n) (left_by (chain ++ d ∷ []) names) (left_by chain names) (rest among))

-- one of the names that isn't in the chain yet
pub left_less : (d : List ℕ) (chain names : List (List ℕ)) → is_among d names ≡ true → is_among d chain ≡ false → left_by (chain ++ d ∷ []) names < left_by chain names
left_less d chain [] among fresh = cc
left_less d chain (n ∷ names) among fresh = left_fewer (same_text n d) d n chain names refl among fresh (λ a. left_less d chain names a fresh)

-- ---- costs

pub cost_grows : (j k : ℕ) → j ≤ k → cost j ≤ cost k
cost_grows zero zero h = omega arith
cost_grows zero (suc k) h = let i = cost_grows zero k (omega arith) in omega (arith, i)
cost_grows (suc j) zero h = absurd (omega (arith, h))
cost_grows (suc j) (suc k) h = let i = cost_grows j k (omega (arith, h)) in omega (arith, i)

pub cost_some : (k : ℕ) → 1 ≤ cost k
cost_some zero = omega arith
cost_some (suc k) = omega arith

pub fewer_weigh : (m n c h : ℕ) → m < n → h ≤ c → m * c + h ≤ n * c
fewer_weigh m n c h l hc =
    let le : c * (m + 1) ≤ c * n = mul-le-mul_left c (omega (arith, l)) in
    omega (arith, le, hc)

-- ---- sums

pub sum_between : {X : Type 0} (f : X → ℕ) (xs : List X) (x : X) (ys : List X) → sum_by f (xs ++ x ∷ ys) ≡ sum_by f (xs ++ ys) + f x
sum_between f xs x ys =
    let whole = sum_by-append f xs (x ∷ ys) in
    let rest = sum_by-append f xs ys in
    let more = sum_by-cons f x ys in
    omega (arith, whole, rest, more)
