-- What passes one test passes another.
use Rattle.std.proofs.Common.{◌≡◌, ◌∙◌, ◌&&◌, Bool, true, List, [], ◌∷◌, reverse, refl, ap}
use Rattle.std.specs.List.{list_all}
use Rattle.std.proofs.lemmas.List.{reverse-append}
use Rattle.std.proofs.lemmas.List.Folds.{list_all-append}
use Rattle.std.proofs.lemmas.Bool.{and_from, and_parts}

pub weaker : {X : Type 0} (p q : X → Bool) → ((x : X) → p x ≡ true → q x ≡ true) → (xs : List X) → list_all p xs ≡ true → list_all q xs ≡ true
weaker p q implies [] all = refl
weaker p q implies (x ∷ xs) all =
    let both = and_parts (p x) (list_all p xs) all in
    and_from (q x) (list_all q xs) (implies x both.0) (weaker p q implies xs both.1)

-- the same in the other order
pub turned : {X : Type 0} (p : X → Bool) (xs : List X) → list_all p xs ≡ true → list_all p (reverse xs) ≡ true
turned p [] all = refl
turned p (x ∷ xs) all =
    let both = and_parts (p x) (list_all p xs) all in
    ap (list_all p) (reverse-append (x ∷ []) xs) ∙ list_all-append p (reverse xs) (x ∷ [])
    ∙ and_from (list_all p (reverse xs)) (p x && true) (turned p xs both.1) (and_from (p x) true both.0 refl)
