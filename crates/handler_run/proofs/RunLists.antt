-- Lists that grow at their end.
use Rattle.std.proofs.Common.{◌≡◌, ◌≤◌, ℕ, zero, suc, List, [], ◌∷◌, ◌++◌, length, take, Some, None, refl, ap, arith}
use Rattle.std.specs.List.{All}
use Rattle.std.specs.Prelude.{slice_get}
use Rattle.std.proofs.lemmas.List.Elements.{All-pop}

-- what holds of each of these and of one more
pub all_last : {X : Type 0} (P : X → Type 0) (xs : List X) (y : X) → All P (xs ++ y ∷ []) → All P xs × P y
all_last P xs y h = All-pop P (xs ++ y ∷ []) xs (Some y) refl h

-- one element more is taken
pub take_next : {X : Type 0} (xs : List X) (n : ℕ) (x : X) → slice_get xs n ≡ Some x → take (suc n) xs ≡ take n xs ++ x ∷ []
take_next [] n x e = cc
take_next (y ∷ ys) zero x e = cc
take_next (y ∷ ys) (suc n) x e = ap (λ l. y ∷ l) (take_next ys n x e)

-- the element behind a front
pub get_behind : {X : Type 0} (xs : List X) (x : X) (ys : List X) → slice_get (xs ++ x ∷ ys) (length xs) ≡ Some x
get_behind [] x ys = refl
get_behind (z ∷ zs) x ys = get_behind zs x ys

-- nothing stands behind a list that is as long as its front
pub no_rest : {X : Type 0} (xs rest : List X) → length (xs ++ rest) ≤ length xs → rest ≡ []
no_rest [] [] h = refl
no_rest [] (x ∷ rest) h = absurd (omega arith)
no_rest (x ∷ xs) rest h = no_rest xs rest (omega arith)

-- where there is no element the list has ended
pub get_none : {X : Type 0} (xs : List X) (n : ℕ) → slice_get xs n ≡ None → length xs ≤ n
get_none [] n e = omega arith
get_none (x ∷ xs) zero e = cc
get_none (x ∷ xs) (suc n) e = let le = get_none xs n e in omega arith
