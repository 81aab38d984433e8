-- A flight's numbers are its own: each is that of a register, and none stands twice; what they consume stays as another one changes.
use Rattle.std.proofs.Common.{◌≡◌, ℕ, zero, suc, ◌+◌, ◌<◌, ◌≤◌, Bool, true, false, cond, List, [], ◌∷◌, ◌++◌, map, length, take, set, slice_get, Option, Some, None, IsSome, option_map, nat_eq, refl, sym, ap, ◌∙◌, subst, inl, inr, arith, eqb-true, ne_eqb, length-append}
use Rattle.std.specs.Cmp.{nat_eq_equiv}
use Rattle.std.specs.Option.{option_or}
use Rattle.std.proofs.lemmas.Bool.{cases_Bool}
use Rattle.std.proofs.lemmas.List.Folds.{find-append}
use Rattle.lang_core.specs.declared.request.Request.{Request}
use Rattle.lang_core.specs.declared.request.Response.{Response}
use Rattle.call_registers.specs.Registers.{has_number, register, CountFrom, IsNumbered, consumed_in, consumed, first_register, next_number, with_call, at_number}
use Rattle.call_registers.specs.declared.register.Register.{Register}
use Rattle.call_registers.proofs.ChangeLemmas.{there_within, numbered_push}
use Rattle.service_events.proofs.KeyLemmas.{change_own, change_other, length_change}
use Rattle.service_events.proofs.SearchLemmas.{some_or_none}

-- ---- a register changed

module _ (n : ℕ) (f : Register → Register) (same : (r : Register) → (f r).number ≡ r.number) where
  pub at_own : (rs : List Register) → register n (at_number n f rs) ≡ option_map f (register n rs)
  at_own rs = change_own (λ (r : Register). r.number) n f same rs

  pub at_other : (k : ℕ) → nat_eq n k ≡ false → (rs : List Register) → register k (at_number n f rs) ≡ register k rs
  at_other k h rs = change_other (λ (r : Register). r.number) n f same k h rs

  count_changed : (m : ℕ) (rs : List Register) → CountFrom m rs → CountFrom m (at_number n f rs)
  count_changed m [] h = tt
  count_changed m (r ∷ rs) h = elim (cases_Bool (has_number n r)) [
    | inl is ↦ rw is (same r ∙ h.0, h.1)
    | inr other ↦ rw other (h.0, count_changed (m + 1) rs h.1)
  ]

  pub numbered_changed : (rs : List Register) → IsNumbered rs → IsNumbered (at_number n f rs)
  numbered_changed rs h = count_changed 1 rs h

  pub length_changed : (rs : List Register) → length (at_number n f rs) ≡ length rs
  length_changed rs = length_change (λ (r : Register). r.number) n f same rs

-- ---- what a number consumes

-- a change that leaves what a register consumes
pub consumed_changed : (n : ℕ) (f : Register → Register) → ((r : Register) → (f r).number ≡ r.number) → ((r : Register) → consumed_in (Some (f r)) ≡ consumed_in (Some r)) → (m : ℕ) (rs : List Register)
    → consumed m (at_number n f rs) ≡ consumed m rs
consumed_changed n f same gives m rs = elim (cases_Bool (nat_eq n m)) [
  | inl is ↦ (let P : ℕ → Type 0 = λ k. consumed k (at_number n f rs) ≡ consumed k rs in
      subst P (eqb-true n m is) (ap consumed_in (at_own n f same rs) ∙ gives_some (register n rs)))
  | inr other ↦ ap consumed_in (at_other n f same m other rs)
]
  where
    gives_some : (o : Option Register) → consumed_in (option_map f o) ≡ consumed_in o
    gives_some None = refl
    gives_some (Some r) = gives r

pub consumed_other : (n : ℕ) (f : Register → Register) → ((r : Register) → (f r).number ≡ r.number) → (m : ℕ) → nat_eq n m ≡ false → (rs : List Register) → consumed m (at_number n f rs) ≡ consumed m rs
consumed_other n f same m other rs = ap consumed_in (at_other n f same m other rs)

fresh_gives : (o : Option Register) (b : Bool) (r : Register) → consumed_in (Some r) ≡ None → consumed_in (option_or o (cond b (Some r) None)) ≡ consumed_in o
fresh_gives None true r none = none
fresh_gives None false r none = refl
fresh_gives (Some x) b r none = refl

-- a new call changes what no number consumes
pub consumed_named : (m : ℕ) (dest : List ℕ) (q : Request) (since : ℕ) (rs : List Register) → consumed m (with_call dest q since rs) ≡ consumed m rs
consumed_named m dest q since rs =
    let r = first_register (next_number rs) dest q since in
    ap consumed_in (find-append (has_number m) rs (r ∷ [])) ∙ fresh_gives (register m rs) (nat_eq (next_number rs) m) r refl

-- the next number is that of no register
pub next_free : (rs : List Register) → IsNumbered rs → register (next_number rs) rs ≡ None
next_free rs h = elim (some_or_none (register (next_number rs) rs)) [
  | inl none ↦ none
  | inr some ↦ (let w = there_within rs (next_number rs) h (there (register (next_number rs) rs) some.0 some.1) in let above = w.1 in absurd (omega (arith, above)))
]
  where
    there : (o : Option Register) (r : Register) → o ≡ Some r → IsSome o
    there None r e = cc
    there (Some x) r e = refl

pub numbered_named : (dest : List ℕ) (q : Request) (since : ℕ) (rs : List Register) → IsNumbered rs → IsNumbered (with_call dest q since rs)
numbered_named dest q since rs h = numbered_push rs (first_register (next_number rs) dest q since) h refl

pub length_named : (dest : List ℕ) (q : Request) (since : ℕ) (rs : List Register) → length (with_call dest q since rs) ≡ length rs + 1
length_named dest q since rs = length-append rs (first_register (next_number rs) dest q since ∷ [])

-- ---- numbers that stand once

-- none of these is this number
abbrev pub IsNone : ℕ → List ℕ → Type 0
IsNone n [] = Unit {0}
IsNone n (m ∷ ms) = (nat_eq m n ≡ false) × IsNone n ms

abbrev pub AreApart : List ℕ → Type 0
AreApart [] = Unit {0}
AreApart (n ∷ ns) = IsNone n ns × AreApart ns

abbrev pub AreWithin : ℕ → List ℕ → Type 0
AreWithin most [] = Unit {0}
AreWithin most (n ∷ ns) = (n ≤ most) × AreWithin most ns

pub within_more : (most more : ℕ) (ns : List ℕ) → most ≤ more → AreWithin most ns → AreWithin more ns
within_more most more [] l h = tt
within_more most more (n ∷ ns) l h = ((let w = h.0 in omega (arith, w, l)), within_more most more ns l h.1)

pub within_push : (most : ℕ) (ns : List ℕ) (n : ℕ) → AreWithin most ns → n ≤ most → AreWithin most (ns ++ n ∷ [])
within_push most [] n h l = (l, tt)
within_push most (m ∷ ms) n h l = (h.0, within_push most ms n h.1 l)

pub within_set : (most : ℕ) (ns : List ℕ) (i n : ℕ) → AreWithin most ns → n ≤ most → AreWithin most (set ns i n)
within_set most [] i n h l = tt
within_set most (m ∷ ms) zero n h l = (l, h.1)
within_set most (m ∷ ms) (suc i) n h l = (h.0, within_set most ms i n h.1 l)

-- a number above all of these is none of them
pub above_none : (most n : ℕ) (ns : List ℕ) → most < n → AreWithin most ns → IsNone n ns
above_none most n [] l h = tt
above_none most n (m ∷ ms) l h =
    (ne_eqb m n (λ same. (let w = h.0 in absurd (omega (arith, same, w, l)))), above_none most n ms l h.1)

none_push : (n : ℕ) (ms : List ℕ) (m : ℕ) → IsNone n ms → nat_eq m n ≡ false → IsNone n (ms ++ m ∷ [])
none_push n [] m h other = (other, tt)
none_push n (k ∷ ks) m h other = (h.0, none_push n ks m h.1 other)

none_set : (n : ℕ) (ms : List ℕ) (i m : ℕ) → IsNone n ms → nat_eq m n ≡ false → IsNone n (set ms i m)
none_set n [] i m h other = tt
none_set n (k ∷ ks) zero m h other = (other, h.1)
none_set n (k ∷ ks) (suc i) m h other = (h.0, none_set n ks i m h.1 other)

flip : (a b : ℕ) → nat_eq a b ≡ false → nat_eq b a ≡ false
flip a b h = nat_eq_equiv.symm b a ∙ h

pub apart_push : (ns : List ℕ) (n : ℕ) → IsNone n ns → AreApart ns → AreApart (ns ++ n ∷ [])
apart_push [] n none h = (tt, tt)
apart_push (m ∷ ms) n none h = (none_push m ms n h.0 (flip m n none.0), apart_push ms n none.1 h.1)

pub apart_set : (ns : List ℕ) (i n : ℕ) → IsNone n ns → AreApart ns → AreApart (set ns i n)
apart_set [] i n none h = tt
apart_set (m ∷ ms) zero n none h = (none.1, h.1)
apart_set (m ∷ ms) (suc i) n none h = (none_set m ms i n h.0 (flip m n none.0), apart_set ms i n none.1 h.1)

none_got : (n : ℕ) (ns : List ℕ) (i k : ℕ) → IsNone n ns → slice_get ns i ≡ Some k → nat_eq k n ≡ false
none_got n [] i k h e = cc
none_got n (m ∷ ms) zero k h e = (let is : m ≡ k = cc in ap (λ x. nat_eq x n) (sym is) ∙ h.0)
none_got n (m ∷ ms) (suc i) k h e = none_got n ms i k h.1 e

-- what the numbers before a place give is the same where only the number at the place gives something else
pub before_same : (f g : ℕ → Response) (ns : List ℕ) (i n : ℕ) → slice_get ns i ≡ Some n → AreApart ns → ((m : ℕ) → nat_eq n m ≡ false → g m ≡ f m) → map g (take i ns) ≡ map f (take i ns)
before_same f g [] i n at h same = cc
before_same f g (m ∷ ms) zero n at h same = refl
before_same f g (m ∷ ms) (suc i) n at h same =
    let here : g m ≡ f m = same m (none_got m ms i n h.0 at) in
    let later = before_same f g ms i n at h.1 same in
    cc

pub all_same : (f g : ℕ → Response) (ns : List ℕ) → ((m : ℕ) → g m ≡ f m) → map g ns ≡ map f ns
all_same f g [] same = refl
all_same f g (n ∷ ns) same = (let here : g n ≡ f n = same n in let later = all_same f g ns same in cc)
