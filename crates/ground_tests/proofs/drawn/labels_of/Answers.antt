use Rattle.std.proofs.Common.{ℕ, zero, suc, List, [], ◌∷◌, ◌++◌, refl, arith}
use Rattle.std.specs.List.{All, Contains}
use Rattle.std.proofs.lemmas.List.Elements.{All-append, All-weaker, Contains-append_left, Contains-append_right}
use Rattle.ground_tests.proofs.drawn.labels_of.Goals as goal

here : (old : List ℕ) (x : ℕ) → All (Contains (old ++ x ∷ [])) (x ∷ [])
here old x zero d lt = Contains-append_right old (x ∷ []) x (0, omega arith, refl)
here old x (suc k) d lt = absurd (omega arith)

more : (old xs : List ℕ) (x : ℕ) → All (Contains old) xs → All (Contains (old ++ x ∷ [])) (xs ++ x ∷ [])
more old xs x all =
    All-append (Contains (old ++ x ∷ [])) xs (x ∷ [])
    (All-weaker (Contains old) (Contains (old ++ x ∷ [])) (λ y h. Contains-append_left old (x ∷ []) y h) xs all) (here old x)

pub loop-turn-preserved : goal.loop-turn-preserved
loop-turn-preserved c =
    let old = c.loop-turn.order.labels in
    let label = c.in_ok-label.label in
    rw (c.in_ok-label.ensures.ok.1, c.in_ok-push.ensures) (more old c.loop-turn.labels.items label c.loop-turn.invariant)
