-- What a walk from root to root hasn't seen, which grows less.
use Rattle.std.proofs.Common.{◌≡◌, ◌<◌, ◌≤◌, ℕ, suc, Bool, true, false, ◌||◌, cond, List, [], ◌∷◌, inl, inr, sym, subst, true≢false, arith}
use Rattle.lang_core.specs.declared.ids.RequestId.{RequestId}
use Rattle.one_world.proofs.Lists.{Has}
use Rattle.one_order.specs.Shown.{same_ids}
use Rattle.one_order.proofs.CycleLaws.{same_ids_self}

-- a root is one of these
abbrev pub among : RequestId → List RequestId → Bool
among i [] = false
among i (s ∷ seen) = same_ids i s || among i seen

-- how many of these a walk hasn't seen
abbrev pub unseen : List RequestId → List RequestId → ℕ
unseen seen [] = 0
unseen seen (i ∷ all) = cond (among i seen) (unseen seen all) (suc (unseen seen all))

fewer_by : (is old : Bool) (n m : ℕ) → n ≤ m → cond (is || old) n (suc n) ≤ cond old m (suc m)
fewer_by true true n m le = le
fewer_by true false n m le = omega (arith, le)
fewer_by false true n m le = le
fewer_by false false n m le = omega (arith, le)

fewer : (i : RequestId) (seen all : List RequestId) → unseen (i ∷ seen) all ≤ unseen seen all
fewer i seen [] = omega arith
fewer i seen (j ∷ all) = fewer_by (same_ids j i) (among j seen) (unseen (i ∷ seen) all) (unseen seen all) (fewer i seen all)

less_here : (is old : Bool) (n m : ℕ) → is ≡ true → old ≡ false → n ≤ m → cond (is || old) n (suc n) < cond old m (suc m)
less_here true true n m e f le = absurd (true≢false f)
less_here true false n m e f le = omega (arith, le)
less_here false old n m e f le = absurd (true≢false (sym e))

less_there : (is old : Bool) (n m : ℕ) → n < m → cond (is || old) n (suc n) < cond old m (suc m)
less_there true true n m lt = lt
less_there true false n m lt = omega (arith, lt)
less_there false true n m lt = lt
less_there false false n m lt = omega (arith, lt)

pub less : (i : RequestId) (seen all : List RequestId) → Has i all → among i seen ≡ false → unseen (i ∷ seen) all < unseen seen all
less i seen [] there new = absurd there
less i seen (j ∷ all) (inl e) new =
    less_here (same_ids j i) (among j seen) (unseen (i ∷ seen) all) (unseen seen all) (subst (λ (k : RequestId). same_ids k i ≡ true) e (same_ids_self i))
    (subst (λ (k : RequestId). among k seen ≡ false) e new) (fewer i seen all)
less i seen (j ∷ all) (inr there) new =
    less_there (same_ids j i) (among j seen) (unseen (i ∷ seen) all) (unseen seen all) (less i seen all there new)
