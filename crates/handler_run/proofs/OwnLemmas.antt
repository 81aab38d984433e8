-- The own writes under a prefix stand in order.
use Rattle.std.proofs.Common.{◌≡◌, ◌<◌, ℕ, zero, suc, Bool, true, false, cond, List, [], ◌∷◌, ◌++◌, length, take, get_or, filter, ◌&&◌, arith, subst, sym, ap, ◌∙◌}
use Rattle.lang_base.specs.Texts.{same_text, begins_with}
use Rattle.lang_core.specs.declared.writes.Write.{Write}
use Rattle.lang_core.specs.Places.{Place, IsBelowAll, IsOrdered}
use Rattle.lang_core.specs.Rows.{write_place}
use Rattle.handler_run.specs.Runs.{own_beneath}

-- what holds of both choices holds of the chosen one
either : (P : List Write → Type 0) (b : Bool) (x y : List Write) → P x → P y → P (cond b x y)
either P true x y p q = p
either P false x y p q = q

below_filter : (p : Place) (test : Write → Bool) (ws : List Write) → IsBelowAll write_place p ws → IsBelowAll write_place p (filter test ws)
below_filter p test [] all = tt
below_filter p test (w ∷ ws) all =
    either (IsBelowAll write_place p) (test w) (w ∷ filter test ws) (filter test ws)
    (all.0, below_filter p test ws all.1) (below_filter p test ws all.1)

ordered_filter : (test : Write → Bool) (ws : List Write) → IsOrdered write_place ws → IsOrdered write_place (filter test ws)
ordered_filter test [] o = tt
ordered_filter test (w ∷ ws) o =
    either (IsOrdered write_place) (test w) (w ∷ filter test ws) (filter test ws)
    (below_filter (write_place w) test ws o.0, ordered_filter test ws o.1) (ordered_filter test ws o.1)

below_take : (p : Place) (n : ℕ) (ws : List Write) → IsBelowAll write_place p ws → IsBelowAll write_place p (take n ws)
below_take p zero ws all = tt
below_take p (suc n) [] all = tt
below_take p (suc n) (w ∷ ws) all = (all.0, below_take p n ws all.1)

ordered_take : (n : ℕ) (ws : List Write) → IsOrdered write_place ws → IsOrdered write_place (take n ws)
ordered_take zero ws o = tt
ordered_take (suc n) [] o = tt
ordered_take (suc n) (w ∷ ws) o = (below_take (write_place w) n ws o.0, ordered_take n ws o.1)

kept : (b : Bool) (v w : Write) (xs ys : List Write) → xs ≡ ys ++ w ∷ [] → cond b (v ∷ xs) xs ≡ cond b (v ∷ ys) ys ++ w ∷ []
kept true v w xs ys e = ap (λ zs. v ∷ zs) e
kept false v w xs ys e = e

first : (b : Bool) (v w : Write) → w ≡ v → b ≡ true → cond b (v ∷ []) [] ≡ w ∷ []
first true v w e h = ap (λ x. x ∷ []) (sym e)
first false v w e h = cc

one_more : (test : Write → Bool) (ws : List Write) (n : ℕ) (w : Write) → n < length ws → w ≡ get_or ws n w → test w ≡ true → filter test (take (suc n) ws) ≡ filter test (take n ws) ++ w ∷ []
one_more test [] n w l is h = absurd (omega arith)
one_more test (v ∷ ws) zero w l is h = first (test v) v w is (ap test (sym is) ∙ h)
one_more test (v ∷ ws) (suc n) w l is h = kept (test v) v w _ _ (one_more test ws n w (omega arith) is h)

pub own_ordered : (t p : List ℕ) (ws : List Write) (n : ℕ) (w : Write) → n < length ws → w ≡ get_or ws n w → (same_text w.table t && begins_with p w.key) ≡ true → IsOrdered write_place ws → IsOrdered write_place (own_beneath t p (take n ws) ++ w ∷ [])
own_ordered t p ws n w l is e o =
    let test : Write → Bool = λ w. same_text w.table t && begins_with p w.key in
    subst (IsOrdered write_place) (one_more test ws n w l is e) (ordered_filter test (take (suc n) ws) (ordered_take (suc n) ws o))
