-- The test of equality says what it should.
use Rattle.std.proofs.Common.{◌≡◌, ◌↔◌, Bool, true, false, IsTrue, ℕ, nat_eq, refl, sym, ap, subst, eqb-true, eq-eqb}
use Rattle.std.proofs.lemmas.Bool.{and_from, and_parts}
use base.Stored.{Coded, Gv, gnil, gnum, gcons}
use Rattle.lang_base.specs.Equal.{equal_codes, equal}

pub nat_same : (n : ℕ) → nat_eq n n ≡ true
nat_same n = eq-eqb n n refl

codes-true : (a b : Gv) → equal_codes a b ≡ true → a ≡ b
codes-true gnil gnil h = refl
codes-true gnil (gnum n) h = cc
codes-true gnil (gcons c d) h = cc
codes-true (gnum m) gnil h = cc
codes-true (gnum m) (gnum n) h = ap gnum (eqb-true m n h)
codes-true (gnum m) (gcons c d) h = cc
codes-true (gcons a b) gnil h = cc
codes-true (gcons a b) (gnum n) h = cc
codes-true (gcons a b) (gcons c d) h =
    let p = and_parts (equal_codes a c) (equal_codes b d) h in
    let e = codes-true a c p.0 in
    let f = codes-true b d p.1 in
    cc

codes-same : (a : Gv) → equal_codes a a ≡ true
codes-same gnil = refl
codes-same (gnum n) = nat_same n
codes-same (gcons a b) = and_from (equal_codes a a) (equal_codes b b) (codes-same a) (codes-same b)

pub equal-true : {X : Type 0} (c : Coded X) (x y : X) → equal c x y ≡ true → x ≡ y
unfolding equal
equal-true c x y h = c.inj x y (codes-true (c.code x) (c.code y) h)

pub equal-same : {X : Type 0} (c : Coded X) (x y : X) → x ≡ y → equal c x y ≡ true
unfolding equal
equal-same c x y e = subst (λ v. equal_codes (c.code x) (c.code v) ≡ true) e (codes-same (c.code x))

bool_by : (a b : Bool) → (a ≡ true → b ≡ true) → (b ≡ true → a ≡ true) → a ≡ b
bool_by true b f g = sym (f refl)
bool_by false true f g = g refl
bool_by false false f g = refl

-- a test that is true exactly where the two are equal is this one
pub equal_is : {X : Type 0} (c : Coded X) (x y : X) (b : Bool) → (IsTrue b ↔ (x ≡ y)) → b ≡ equal c x y
equal_is c x y b h = bool_by b (equal c x y) (λ t. equal-same c x y (h.0 t)) (λ t. h.1 (equal-true c x y t))
