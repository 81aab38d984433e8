-- One line more.
use Rattle.std.proofs.Common.{◌≡◌, ◌+◌, ◌<◌, ℕ, List, [], ◌∷◌, ◌++◌, flat_map, length, get_or, take, append-nil, append_assoc, sym, ap, ◌∙◌, add-one}
use Rattle.std.proofs.Math.Seq.{take-suc}
use Rattle.std.proofs.lemmas.List.Concat.{flat_map-append}

-- one piece more
more_pieces : {X : Type 0} (f : X → List ℕ) (xs : List X) (i : ℕ) (d : X) → i < length xs → flat_map f (take (i + 1) xs) ≡ flat_map f (take i xs) ++ f (get_or xs i d)
more_pieces f xs i d within =
    ap (λ n. flat_map f (take n xs)) (add-one i)
    ∙ ap (flat_map f) (take-suc xs i d within)
    ∙ flat_map-append f (take i xs) (get_or xs i d ∷ [])
    ∙ ap (λ b. flat_map f (take i xs) ++ b) (append-nil (f (get_or xs i d)))

pub one_more_line : {X : Type 0} (f : X → List ℕ) (xs : List X) (i : ℕ) (d : X) (before sofar now : List ℕ) → i < length xs → sofar ≡ before ++ flat_map f (take i xs)
    → now ≡ sofar ++ f (get_or xs i d) → now ≡ before ++ flat_map f (take (i + 1) xs)
one_more_line f xs i d before sofar now within told more =
    more ∙ ap (λ b. b ++ f (get_or xs i d)) told
    ∙ append_assoc before (flat_map f (take i xs)) (f (get_or xs i d))
    ∙ ap (λ b. before ++ b) (sym (more_pieces f xs i d within))
