-- What the run of an order gives is the run of its roots' tapes.
use Rattle.std.proofs.Common.{◌≡◌, ℕ, Bool, true, false, cond, List, [], ◌∷◌, ◌++◌, take, drop, length, Some, None, refl, sym, ap, ◌∙◌}
use Rattle.std.specs.Option.{option_map}
use Rattle.lang_core.specs.declared.ids.RequestId.{RequestId}
use Rattle.execution.specs.Executions.{History}
use Rattle.execution.specs.Together.{IsLegalTogether}
use Rattle.one_world.specs.OneWorld.{Run, before_all, one_world}
use Rattle.one_world.specs.Tapes.{World}
use Rattle.one_world.specs.Trees.{AreRoots, Trees}
use Rattle.one_world.specs.Turns.{turn_roots}
use Rattle.one_world.proofs.Lists.{if_false, if_true}
use Rattle.one_world.proofs.Turning.{one_world_turned}

take_none : (zs : World) → take 0 zs ≡ []
take_none [] = refl
take_none (z ∷ zs) = refl

take_front : (xs zs : World) → take (length xs) (xs ++ zs) ≡ xs
take_front [] zs = take_none zs
take_front (x ∷ xs) zs = ap (λ ys. x ∷ ys) (take_front xs zs)

pub ran_so : (world : List History) → IsLegalTogether world → (order : List RequestId) (xs ys start : World) (n : ℕ) (b : Bool) → b ≡ true
    → cond b (Some xs) None ≡ turn_roots (length world) world order start → start ≡ ys → ys ≡ before_all world → n ≡ length ys → length xs ≡ length start
    → (t : Trees) → AreRoots t world order → Some (take n (xs ++ drop (length xs) ys)) ≡ option_map (λ (r : Run). r.world) (one_world world t)
ran_so world legal order xs ys start n b is ran e f g h t roots =
    let size : n ≡ length xs = g ∙ ap length (sym e) ∙ sym h in
    ap Some (ap (λ m. take m (xs ++ drop (length xs) ys)) size ∙ take_front xs (drop (length xs) ys))
    ∙ sym (if_true b (Some xs) None is) ∙ ran ∙ ap (λ w. turn_roots (length world) world order w) (e ∙ f) ∙ one_world_turned world legal t order roots

pub fails_so : (world : List History) → IsLegalTogether world → (order : List RequestId) (xs ys start : World) (b : Bool) → b ≡ false
    → cond b (Some xs) None ≡ turn_roots (length world) world order start → start ≡ ys → ys ≡ before_all world
    → (t : Trees) → AreRoots t world order → None ≡ option_map (λ (r : Run). r.world) (one_world world t)
fails_so world legal order xs ys start b is ran e f t roots =
    sym (if_false b (Some xs) None is) ∙ ran ∙ ap (λ w. turn_roots (length world) world order w) (e ∙ f) ∙ one_world_turned world legal t order roots
