-- Labels that rise in an order rise in it also with one more label in it, wherever that is put.
use Rattle.std.proofs.Common.{◌≡◌, ◌≢◌, ℕ, zero, suc, ◌+◌, ◌<◌, Bool, true, false, cond, not, List, [], ◌∷◌, nat_eq, sym, subst, arith}
use Rattle.std.specs.List.{Contains, insert}
use Rattle.std.proofs.lemmas.Bool.{ne_eqb}
use Rattle.place_order.specs.Labels.{place_in, IsNew}
use Rattle.place_order.specs.Rising.{IsBeforeAll, IsRising}
use Rattle.place_order.proofs.InsertLemmas.{still_there}

-- two labels stand as before
later_by : (a b : Bool) (m n p q : ℕ) → cond (not a) (1 + m) 0 < cond (not b) (1 + n) 0 → (m < n → p < q) → cond (not a) (1 + p) 0 < cond (not b) (1 + q) 0
later_by true true m n p q h more = absurd (omega arith)
later_by true false m n p q h more = omega arith
later_by false true m n p q h more = absurd (omega arith)
later_by false false m n p q h more = let k : p < q = more (omega arith) in omega arith

still_before : (order : List ℕ) (at made x y : ℕ) → made ≢ x → made ≢ y → place_in order x < place_in order y → place_in (insert order at made) x < place_in (insert order at made) y
still_before order zero made x y a b h =
    let e : nat_eq made x ≡ false = ne_eqb made x a in
    let f : nat_eq made y ≡ false = ne_eqb made y b in
    rw (e, f) (omega arith)
still_before [] (suc at) made x y a b h = absurd (omega arith)
still_before (z ∷ zs) (suc at) made x y a b h =
    later_by (nat_eq z x) (nat_eq z y) (place_in zs x) (place_in zs y) (place_in (insert zs at made) x) (place_in (insert zs at made) y) h (still_before zs at made x y a b)

new_differs : (order : List ℕ) (made x : ℕ) → IsNew made order → Contains order x → made ≢ x
new_differs order made x new there e = let P : ℕ → Type 0 = λ n. Contains order n in new (subst P (sym e) there)

before_still : (order : List ℕ) (at made x : ℕ) (ys : List ℕ) → IsNew made order → made ≢ x → IsRising order ys → IsBeforeAll order x ys → IsBeforeAll (insert order at made) x ys
before_still order at made x [] new a r all = tt
before_still order at made x (y ∷ ys) new a r all =
    (still_before order at made x y a (new_differs order made y new r.0) all.0, before_still order at made x ys new a r.2 all.1)

pub rising_still : (order : List ℕ) (at made : ℕ) → IsNew made order → (labels : List ℕ) → IsRising order labels → IsRising (insert order at made) labels
rising_still order at made new [] r = tt
rising_still order at made new (x ∷ xs) r =
    (still_there order at made x r.0, before_still order at made x xs new (new_differs order made x new r.0) r.2 r.1, rising_still order at made new xs r.2)
