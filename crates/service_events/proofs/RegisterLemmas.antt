-- Registers after a change of one, and after one more.
use Rattle.std.proofs.Common.{◌≡◌, ℕ, suc, ◌+◌, ◌≤◌, Bool, true, false, cond, List, [], ◌∷◌, ◌++◌, Option, Some, None, IsSome, length, nat_eq, find, option_map, refl, sym, ap, ◌∙◌, subst, inl, inr, arith, eqb-true, ne_eqb}
use Rattle.std.proofs.lemmas.Bool.{cases_Bool, eqb-false}
use Rattle.std.proofs.lemmas.List.Folds.{find-append}
use Rattle.std.specs.Option.{option_or}
use Rattle.call_registers.specs.Changes.{change}
use Rattle.call_registers.specs.Registers.{has_number, register, at_number, next_number, CountFrom, IsNumbered}
use Rattle.call_registers.specs.declared.register.Register.{Register}
use Rattle.call_registers.proofs.ChangeLemmas.{there_within}

pub other_number : (k n m : ℕ) → nat_eq k n ≡ false → nat_eq k m ≡ true → nat_eq n m ≡ false
other_number k n m differs is = ne_eqb n m (λ e. eqb-false k n differs (eqb-true k m is ∙ sym e))

pub flip_false : (a b : ℕ) → nat_eq a b ≡ false → nat_eq b a ≡ false
flip_false a b h = ne_eqb b a (λ e. eqb-false a b h (sym e))

pub some_is : {X : Type 0} (x y : X) → Some x ≡ Some y → x ≡ y
some_is x y e = cc

-- ---- which register has a number

pub found_number : (n : ℕ) (rs : List Register) (r : Register) → register n rs ≡ Some r → r.number ≡ n
found_number n [] r e = cc
found_number n (x ∷ xs) r e = elim (cases_Bool (nat_eq x.number n)) [
  | inl is ↦ ap (λ (y : Register). y.number) (sym (some_is x r (rw is at e))) ∙ eqb-true x.number n is
  | inr differs ↦ found_number n xs r (rw differs at e)
]

next_none_of : (rs : List Register) (o : Option Register) → IsNumbered rs → register (next_number rs) rs ≡ o → o ≡ None
next_none_of rs None h e = refl
next_none_of rs (Some r) h e = absurd (let w = there_within rs (next_number rs) h (subst IsSome (sym e) refl) in omega (arith, w.1))

-- the next number has no register yet
pub next_none : (rs : List Register) → IsNumbered rs → register (next_number rs) rs ≡ None
next_none rs h = next_none_of rs (register (next_number rs) rs) h refl

-- a number that has a register is at most how many there are
pub found_within : (n : ℕ) (rs : List Register) (r : Register) → IsNumbered rs → register n rs ≡ Some r → n ≤ length rs
found_within n rs r h e = let w = there_within rs n h (subst IsSome (sym e) refl) in omega (arith, w.1)

-- ---- a change of one

nothing : (b : Bool) (f : Register → Register) → None ≡ cond b (option_map f None) None
nothing true f = refl
nothing false f = refl

here : (c : Bool) (f : Register → Register) (r : Register) (o : Option Register)
    → cond c (Some (f r)) o ≡ cond c (option_map f (cond c (Some r) o)) (cond c (Some r) o)
here true f r o = refl
here false f r o = refl

passed : (b c : Bool) (f : Register → Register) (r : Register) (o : Option Register) → (b ≡ true → c ≡ false)
    → cond b (Some r) (cond c (option_map f o) o) ≡ cond c (option_map f (cond b (Some r) o)) (cond b (Some r) o)
passed true true f r o h = let e = h refl in cc
passed true false f r o h = refl
passed false c f r o h = refl

-- a change of a number's register changes what that number has, and no other
pub find-change : (n m : ℕ) (f : Register → Register) → ((r : Register) → (f r).number ≡ r.number) → (rs : List Register)
    → register m (at_number n f rs) ≡ cond (nat_eq n m) (option_map f (register m rs)) (register m rs)
find-change n m f keeps [] = nothing (nat_eq n m) f
find-change n m f keeps (r ∷ rs) = elim (cases_Bool (nat_eq r.number n)) [
  | inl is ↦ (let a : nat_eq (f r).number m ≡ nat_eq n m = ap (λ k. nat_eq k m) (keeps r ∙ eqb-true r.number n is) in
      let b : nat_eq r.number m ≡ nat_eq n m = ap (λ k. nat_eq k m) (eqb-true r.number n is) in
      rw (is, a, b) (here (nat_eq n m) f r (find (has_number m) rs)))
  | inr differs ↦ rw differs
      (ap (λ o. cond (nat_eq r.number m) (Some r) o) (find-change n m f keeps rs)
      ∙ passed (nat_eq r.number m) (nat_eq n m) f r (find (has_number m) rs) (other_number r.number n m differs))
]

pub length-change : {X : Type 0} (p : X → Bool) (f : X → X) (xs : List X) → length (change p f xs) ≡ length xs
length-change p f [] = refl
length-change p f (x ∷ xs) = elim (cases_Bool (p x)) [
  | inl is ↦ rw is refl
  | inr differs ↦ rw differs (ap suc (length-change p f xs))
]

numbered_from : (m n : ℕ) (f : Register → Register) → ((r : Register) → (f r).number ≡ r.number) → (rs : List Register)
    → CountFrom m rs → CountFrom m (at_number n f rs)
numbered_from m n f keeps [] h = tt
numbered_from m n f keeps (r ∷ rs) h = elim (cases_Bool (nat_eq r.number n)) [
  | inl is ↦ rw is (keeps r ∙ h.0, h.1)
  | inr differs ↦ rw differs (h.0, numbered_from (m + 1) n f keeps rs h.1)
]

pub numbered_change : (n : ℕ) (f : Register → Register) → ((r : Register) → (f r).number ≡ r.number) → (rs : List Register)
    → IsNumbered rs → IsNumbered (at_number n f rs)
numbered_change n f keeps rs h = numbered_from 1 n f keeps rs h

-- ---- one more

or_none : (o : Option Register) → option_or o None ≡ o
or_none None = refl
or_none (Some r) = refl

-- a register more of a number that had none
pub find-push : (m : ℕ) (rs : List Register) (r : Register) → register r.number rs ≡ None
    → register m (rs ++ r ∷ []) ≡ cond (nat_eq r.number m) (Some r) (register m rs)
find-push m rs r none = elim (cases_Bool (nat_eq r.number m)) [
  | inl is ↦ (let gone : register m rs ≡ None = ap (λ k. register k rs) (sym (eqb-true r.number m is)) ∙ none in
      rw is (find-append (has_number m) rs (r ∷ []) ∙ ap (λ o. option_or o (cond (nat_eq r.number m) (Some r) None)) gone ∙ ap (λ b. cond b (Some r) None) is))
  | inr differs ↦ rw differs
      (find-append (has_number m) rs (r ∷ []) ∙ ap (λ b. option_or (register m rs) (cond b (Some r) None)) differs ∙ or_none (register m rs))
]
