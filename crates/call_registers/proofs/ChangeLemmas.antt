-- Changes of one element, by its place.
use Rattle.std.proofs.Common.{◌≡◌, ◌∙◌, sym, ap, refl, ℕ, zero, suc, ◌+◌, ◌-◌, ◌<◌, ◌≤◌, ◌≢◌, Bool, true, false, cond, List, [], ◌∷◌, ◌++◌, length, set, get_or, slice_get, Option, Some, None, find, IsSome, nat_eq, arith, add-one}
use Rattle.std.proofs.lemmas.Bool.{eqb-true}
use Rattle.std.proofs.lemmas.Bool.Decides.{nat_tests}
use Rattle.call_registers.specs.Changes.{change}
use Rattle.call_registers.specs.Registers.{has_number, CountFrom, IsNumbered, IsThere, register, at_number, changed, is_newer}
use Rattle.call_registers.specs.declared.register.Register.{Register}
use Rattle.call_registers.specs.declared.register.RegisterChange.{RegisterChange}
use Rattle.call_registers.specs.declared.register.RegisterChange.TheVariants.{Send, Ack, SeeAnswer, Note, Tell, Hold, Release}
use Rattle.lang_base.proofs.EqualLemmas.{nat_same}

-- where numbers begin above it, a number isn't there
not_equal : (m n : ℕ) → n < m → nat_eq m n ≡ false
not_equal m n h = grind (arith, nat_tests)

pub not_same : (m n : ℕ) → n ≢ m → nat_eq m n ≡ false
not_same m n h = grind (arith, nat_tests)

no_none : IsSome {T = Register} None → ⊥
no_none h = cc

pub skip : {X : Type 0} (b : Bool) (x : X) (o o' : Option X) → b ≡ false → o ≡ o' → cond b (Some x) o ≡ o'
skip true x o o' h e = cc
skip false x o o' h e = e

take_it : {X : Type 0} (b : Bool) (x : X) (o : Option X) → b ≡ true → cond b (Some x) o ≡ Some x
take_it true x o h = refl
take_it false x o h = cc

pub none_below : (m n : ℕ) (rs : List Register) → CountFrom m rs → n < m → find (has_number n) rs ≡ None
none_below m n [] h w = refl
none_below m n (r ∷ rs) h w =
    let other : nat_eq r.number n ≡ false = rw h.0 (not_equal m n w) in
    skip (nat_eq r.number n) r (find (has_number n) rs) None other (none_below (m + 1) n rs h.1 (omega (arith, w)))

-- the register of a number stands at that place
pub at_place : (m n place : ℕ) (rs : List Register) → CountFrom m rs → m + place ≡ n → find (has_number n) rs ≡ slice_get rs place
at_place m n place [] h e = refl
at_place m n zero (r ∷ rs) h e =
    let is : m ≡ n = omega (arith, e) in
    let same : nat_eq r.number n ≡ true = rw (h.0, ← is) (nat_same m) in
    take_it (nat_eq r.number n) r (find (has_number n) rs) same
at_place m n (suc place) (r ∷ rs) h e =
    let w : n ≢ m = omega (arith, e) in
    let other : nat_eq r.number n ≡ false = rw h.0 (not_same m n w) in
    skip (nat_eq r.number n) r (find (has_number n) rs) (slice_get rs place) other (at_place (m + 1) n place rs h.1 (omega (arith, e)))

pub found_at : (rs : List Register) (n : ℕ) → IsNumbered rs → n ≢ 0 → register n rs ≡ slice_get rs (n - 1)
found_at rs n h w = at_place 1 n (n - 1) rs h (omega (arith, w))

pub none_zero : (rs : List Register) → IsNumbered rs → register 0 rs ≡ None
none_zero rs h = none_below 1 0 rs h (omega arith)

-- a number that is there is within the numbers
step_within : (b : Bool) (r : Register) (o : Option Register) (m n l : ℕ) → (b ≡ true → m ≡ n) → (IsSome o → (m + 1 ≤ n) × (n < m + 1 + l)) → IsSome (cond b (Some r) o) → (m ≤ n) × (n < m + (l + 1))
step_within true r o m n l same rest h = let e : m ≡ n = same refl in (omega (arith, e), omega (arith, e))
step_within false r o m n l same rest h = let w = rest h in (omega (arith, w.0), omega (arith, w.1))

within : (m n : ℕ) (rs : List Register) → CountFrom m rs → IsSome (find (has_number n) rs) → (m ≤ n) × (n < m + length rs)
within m n [] h there = absurd (no_none there)
within m n (r ∷ rs) h there =
    let w : (m ≤ n) × (n < m + (length rs + 1)) = step_within (nat_eq r.number n) r (find (has_number n) rs) m n (length rs) (λ t. sym h.0 ∙ eqb-true r.number n t) (λ t. within (m + 1) n rs h.1 t) there in
    (w.0, omega (arith, w.1, add-one (length rs)))

pub there_within : (rs : List Register) (n : ℕ) → IsNumbered rs → IsThere n rs → (1 ≤ n) × (n < 1 + length rs)
there_within rs n h there = within 1 n rs h there

-- ---- changes

pub pass : {X : Type 0} (b : Bool) (x y : X) (xs ys : List X) → b ≡ true → cond b (x ∷ xs) (y ∷ ys) ≡ x ∷ xs
pass true x y xs ys h = refl
pass false x y xs ys h = cc

pub fail : {X : Type 0} (b : Bool) (x y : X) (xs ys : List X) → b ≡ false → cond b (x ∷ xs) (y ∷ ys) ≡ y ∷ ys
fail true x y xs ys h = cc
fail false x y xs ys h = refl

change_set-from : (m n place : ℕ) (f : Register → Register) (rs : List Register) (old : Register) → CountFrom m rs → m + place ≡ n → old ≡ get_or rs place old → set rs place (f old) ≡ change (has_number n) f rs
change_set-from m n place f [] old h e o = refl
change_set-from m n zero f (r ∷ rs) old h e o =
    let is : m ≡ n = omega (arith, e) in
    let same : nat_eq r.number n ≡ true = rw (h.0, ← is) (nat_same m) in
    ap (λ x. f x ∷ rs) o ∙ sym (pass (nat_eq r.number n) (f r) r rs (change (has_number n) f rs) same)
change_set-from m n (suc place) f (r ∷ rs) old h e o =
    let w : n ≢ m = omega (arith, e) in
    let other : nat_eq r.number n ≡ false = rw h.0 (not_same m n w) in
    ap (λ l. r ∷ l) (change_set-from (m + 1) n place f rs old h.1 (omega (arith, e)) o)
    ∙ sym (fail (nat_eq r.number n) (f r) r rs (change (has_number n) f rs) other)

-- a change by the number is one by the place
pub change_set : (rs : List Register) (n place : ℕ) (f : Register → Register) (old : Register) → IsNumbered rs → place + 1 ≡ n → old ≡ get_or rs place old → set rs place (f old) ≡ at_number n f rs
change_set rs n place f old h e o = change_set-from 1 n place f rs old h (omega (arith, e)) o

numbered_set-from : (m place : ℕ) (rs : List Register) (old new : Register) → CountFrom m rs → old ≡ get_or rs place old → new.number ≡ old.number → CountFrom m (set rs place new)
numbered_set-from m place [] old new h o e = tt
numbered_set-from m zero (r ∷ rs) old new h o e = (e ∙ ap (λ (x : Register). x.number) o ∙ h.0, h.1)
numbered_set-from m (suc place) (r ∷ rs) old new h o e = (h.0, numbered_set-from (m + 1) place rs old new h.1 o e)

pub numbered_set : (rs : List Register) (place : ℕ) (old new : Register) → IsNumbered rs → old ≡ get_or rs place old → new.number ≡ old.number → IsNumbered (set rs place new)
numbered_set rs place old new h o e = numbered_set-from 1 place rs old new h o e

kept_number : (b : Bool) (r s : Register) → s.number ≡ r.number → (cond b s r).number ≡ r.number
kept_number true r s e = e
kept_number false r s e = refl

-- no change of a register changes its number
pub number_stays : (change : RegisterChange) (r : Register) → (changed change r).number ≡ r.number
number_stays (Send desired since) r = refl
number_stays (Ack version) r = refl
number_stays (SeeAnswer answer) r = kept_number (is_newer r.answer answer.answer_version) r (record r { answer = Some answer }) refl
number_stays (Note answer_version who rule since) r = refl
number_stays (Tell why) r = refl
number_stays (Hold hold) r = refl
number_stays (Release who) r = refl

numbered_push-from : (m : ℕ) (rs : List Register) (r : Register) → CountFrom m rs → r.number ≡ m + length rs → CountFrom m (rs ++ r ∷ [])
numbered_push-from m [] r h e = (omega (arith, e), tt)
numbered_push-from m (x ∷ rs) r h e =
    (h.0, numbered_push-from (m + 1) rs r h.1 (omega (arith, e, add-one (length rs))))

pub numbered_push : (rs : List Register) (r : Register) → IsNumbered rs → r.number ≡ length rs + 1 → IsNumbered (rs ++ r ∷ [])
numbered_push rs r h e = numbered_push-from 1 rs r h (omega (arith, e))
