-- Searches in lists that get an element more, or another one in the place of one.
use Rattle.std.proofs.Common.{◌≡◌, ℕ, zero, suc, ◌+◌, Bool, true, false, cond, List, [], ◌∷◌, ◌++◌, map, length, set, slice_get, Option, Some, None, IsSome, IfSome, IsSomeAnd, ◌||◌, find, insert, All, refl, sym, ap, ◌∙◌, subst, inl, inr, ◌⊎◌, nat_eq, arith, ◌<◌, Contains, get_or}
use Rattle.std.specs.List.{position_or_len}
use Rattle.std.proofs.lemmas.Bool.{cases_Bool, and_parts, eqb-true}
use Rattle.std.proofs.lemmas.List.Elements.{All-head, All-tail}
use Rattle.lang_base.specs.Texts.{same_text}
use Rattle.service_events.specs.State.{or_else}

pub text_is : (a b : List ℕ) → same_text a b ≡ true → a ≡ b
text_is [] [] h = refl
text_is [] (y ∷ ys) h = cc
text_is (x ∷ xs) [] h = cc
text_is (x ∷ xs) (y ∷ ys) h =
    let parts = and_parts (nat_eq x y) (same_text xs ys) h in
    let head : x ≡ y = eqb-true x y parts.0 in
    let rest : xs ≡ ys = text_is xs ys parts.1 in
    cc

pub some_or_none : {X : Type 0} (o : Option X) → (o ≡ None) ⊎ ((x : X) × (o ≡ Some x))
some_or_none None = inl refl
some_or_none (Some x) = inr (x, refl)

pub some_none : {X : Type 0} (o : Option X) → IsSome o → o ≡ None → ⊥
some_none None some none = cc
some_none (Some x) some none = cc

pub some_and : {X : Type 0} (o : Option X) (x : X) (P : X → Type 0) → o ≡ Some x → P x → IsSomeAnd o P
some_and None x P e p = cc
some_and (Some y) x P e p = (let is : y ≡ x = cc in subst P (sym is) p)

pub if_some : {X : Type 0} (o : Option X) (x : X) (P : X → Type 0) → o ≡ Some x → P x → IfSome o P
if_some None x P e p = tt
if_some (Some y) x P e p = (let is : y ≡ x = cc in subst P (sym is) p)

pub or_none : (a b : Bool) → b ≡ false → (a || b) ≡ a
or_none true b h = refl
or_none false b h = h

pub neither : {X : Type 0} (a b : Option X) → or_else a b ≡ None → (a ≡ None) × (b ≡ None)
neither None b h = (refl, h)
neither (Some x) b h = cc

pub none_first : {X : Type 0} (b : Bool) (x : X) (o : Option X) → cond b (Some x) o ≡ None → (b ≡ false) × (o ≡ None)
none_first true x o e = cc
none_first false x o e = (refl, e)

-- ---- what is found

-- the first that passes stands between those before it and the rest
pub record Splits {X : Type 0} (p : X → Bool) (xs : List X) (x : X) : Type 0 where
  pub before : List X
  pub rest : List X
  pub is : xs ≡ before ++ x ∷ rest
  pub none : find p before ≡ None
  pub passes : p x ≡ true

pub splits : {X : Type 0} (p : X → Bool) (xs : List X) (x : X) → find p xs ≡ Some x → Splits p xs x
splits p [] x e = cc
splits p (y ∷ ys) x e = elim (cases_Bool (p y)) [
  | inl is ↦ (let here : Some y ≡ Some x = rw is at e in
      let same : y ≡ x = cc in
      record { before = []; rest = ys; is = ap (λ z. z ∷ ys) same; none = refl; passes = ap p (sym same) ∙ is })
  | inr other ↦ (let s = splits p ys x (rw other at e) in
      record { before = y ∷ s.before; rest = s.rest; is = ap (λ zs. y ∷ zs) s.is; none = rw other s.none; passes = s.passes })
]

pub found_all : {X : Type 0} (P : X → Type 0) (p : X → Bool) (xs : List X) (x : X) → All P xs → find p xs ≡ Some x → P x
found_all P p [] x h e = cc
found_all P p (y ∷ ys) x h e = elim (cases_Bool (p y)) [
  | inl is ↦ (let here : Some y ≡ Some x = rw is at e in let same : y ≡ x = cc in subst P same (All-head P y ys h))
  | inr other ↦ found_all P p ys x (All-tail P y ys h) (rw other at e)
]

pub none_mid : {X : Type 0} (p : X → Bool) (xs : List X) (x : X) (ys : List X) → find p (xs ++ x ∷ ys) ≡ None → p x ≡ false
none_mid p [] x ys h = (none_first (p x) x (find p ys) h).0
none_mid p (z ∷ xs) x ys h = none_mid p xs x ys (none_first (p z) z (find p (xs ++ x ∷ ys)) h).1

pub found_behind : {X : Type 0} (p : X → Bool) (xs : List X) (x : X) (ys : List X) → find p xs ≡ None → p x ≡ true → find p (xs ++ x ∷ ys) ≡ Some x
found_behind p [] x ys none is = rw is refl
found_behind p (z ∷ xs) x ys none is =
    let parts = none_first (p z) z (find p xs) none in rw parts.0 (found_behind p xs x ys parts.1 is)

-- ---- one element more, or another one

find_cons : {X : Type 0} (b c : Bool) (x y : X) (o o' : Option X) → (c ≡ true → b ≡ false) → o' ≡ cond c (Some y) o
    → cond b (Some x) o' ≡ cond c (Some y) (cond b (Some x) o)
find_cons true true x y o o' h e = (let no = h refl in cc)
find_cons true false x y o o' h e = refl
find_cons false c x y o o' h e = e

pub find-insert : {X : Type 0} (p : X → Bool) (xs : List X) (i : ℕ) (y : X) → (p y ≡ true → find p xs ≡ None)
    → find p (insert xs i y) ≡ cond (p y) (Some y) (find p xs)
find-insert p [] zero y h = refl
find-insert p [] (suc i) y h = refl
find-insert p (x ∷ xs) zero y h = refl
find-insert p (x ∷ xs) (suc i) y h =
    find_cons (p x) (p y) x y (find p xs) (find p (insert xs i y)) (λ t. (none_first (p x) x (find p xs) (h t)).0)
    (find-insert p xs i y (λ t. (none_first (p x) x (find p xs) (h t)).1))

put_first : {X : Type 0} (b c : Bool) (x y : X) (o : Option X) → b ≡ c → cond b (Some y) o ≡ cond b (Some y) (cond c (Some x) o)
put_first true c x y o e = refl
put_first false true x y o e = cc
put_first false false x y o e = refl

pub find_put : {X : Type 0} (p : X → Bool) (xs : List X) (x y : X) (ys : List X) → p y ≡ p x → (p y ≡ true → find p xs ≡ None)
    → find p (xs ++ y ∷ ys) ≡ cond (p y) (Some y) (find p (xs ++ x ∷ ys))
find_put p [] x y ys same h = put_first (p y) (p x) x y (find p ys) same
find_put p (z ∷ zs) x y ys same h =
    find_cons (p z) (p y) z y (find p (zs ++ x ∷ ys)) (find p (zs ++ y ∷ ys)) (λ t. (none_first (p z) z (find p zs) (h t)).0)
    (find_put p zs x y ys same (λ t. (none_first (p z) z (find p zs) (h t)).1))

-- ---- places

pub length_insert : {X : Type 0} (xs : List X) (i : ℕ) (y : X) → length (insert xs i y) ≡ length xs + 1
length_insert [] zero y = refl
length_insert [] (suc i) y = refl
length_insert (x ∷ xs) zero y = omega arith
length_insert (x ∷ xs) (suc i) y = omega (arith, length_insert xs i y)

pub place_is : {X : Type 0} (p : X → Bool) (xs : List X) (x : X) (ys : List X) → find p xs ≡ None → p x ≡ true
    → position_or_len p (xs ++ x ∷ ys) ≡ length xs
place_is p [] x ys none is = rw is refl
place_is p (z ∷ xs) x ys none is =
    let parts = none_first (p z) z (find p xs) none in
    let more = place_is p xs x ys parts.1 is in
    rw parts.0 (omega (arith, more))

pub set_mid : {X : Type 0} (xs : List X) (x y : X) (ys : List X) → set (xs ++ x ∷ ys) (length xs) y ≡ xs ++ y ∷ ys
set_mid [] x y ys = refl
set_mid (z ∷ xs) x y ys = ap (λ zs. z ∷ zs) (set_mid xs x y ys)

pub get_mid : {X : Type 0} (xs : List X) (x : X) (ys : List X) → slice_get (xs ++ x ∷ ys) (length xs) ≡ Some x
get_mid [] x ys = refl
get_mid (z ∷ xs) x ys = get_mid xs x ys

pub none_changed : {X : Type 0} (p : X → Bool) (f : X → X) (xs : List X) → find p xs ≡ None → map (λ x. cond (p x) (f x) x) xs ≡ xs
none_changed p f [] h = refl
none_changed p f (x ∷ xs) h =
    let parts = none_first (p x) x (find p xs) h in rw parts.0 (ap (λ zs. x ∷ zs) (none_changed p f xs parts.1))

-- ---- what is there

pub contains_here : {X : Type 0} (x : X) (xs : List X) → Contains (x ∷ xs) x
contains_here x xs = (0, omega arith, refl)

pub contains_cases : {X : Type 0} (y x : X) (xs : List X) → Contains (y ∷ xs) x → (y ≡ x) ⊎ Contains xs x
contains_cases y x xs h = at h.0 h.1 h.2
  where
    at : (k : ℕ) → k < length (y ∷ xs) → get_or (y ∷ xs) k x ≡ x → (y ≡ x) ⊎ Contains xs x
    at zero l e = inl e
    at (suc k) l e = inr (k, omega (arith, l), e)
