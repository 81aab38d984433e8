-- What a list holds into which something was put.
use Rattle.std.proofs.Common.{ℕ, List, [], ◌∷◌, take, drop, sym, subst, inl, inr, refl, arith}
use Rattle.std.specs.List.{Contains, insert}
use Rattle.std.proofs.lemmas.List.{take-append-drop}
use Rattle.std.proofs.lemmas.List.Elements.{Contains-append_left, Contains-append_right, Contains-append_cases}

pub put_there : (xs : List ℕ) (at new : ℕ) → Contains (insert xs at new) new
put_there xs at new = Contains-append_right (take at xs) (new ∷ drop at xs) new (0, omega arith, refl)

pub still_there : (xs : List ℕ) (at new x : ℕ) → Contains xs x → Contains (insert xs at new) x
still_there xs at new x there =
    let P : List ℕ → Type 0 = λ l. Contains l x in
    elim (Contains-append_cases (take at xs) (drop at xs) x (subst P (sym (take-append-drop at xs)) there)) [
      | inl front ↦ Contains-append_left (take at xs) (new ∷ drop at xs) x front
      | inr rest ↦ Contains-append_right (take at xs) (new ∷ drop at xs) x (Contains-append_right (new ∷ []) (drop at xs) x rest)
    ]
