-- Nodes are made from the last service on.
use Rattle.std.proofs.Common.{◌≡◌, ◌++◌, ◌∷◌, [], List, arith, length, map, refl, reverse, sym, ap, ◌∙◌}
use Rattle.std.proofs.lemmas.List.{append_assoc, map-append, reverse-append}

-- what goes from the end of one list to the end of another that stands in reverse
pub moved_over : {A : Type 0} (all front behind : List A) (x : A) → all ≡ (front ++ x ∷ []) ++ reverse behind → all ≡ front ++ reverse (behind ++ x ∷ [])
moved_over all front behind x is =
    is ∙ append_assoc front (x ∷ []) (reverse behind) ∙ ap (λ rest. front ++ rest) (sym (reverse-append behind (x ∷ [])))

-- the same, where the first list is named by its elements
pub named_over : {A B : Type 0} (name : A → B) (all : List B) (old front : List A) (x : A) (before after : List B) → old ≡ front ++ x ∷ []
    → after ≡ before ++ name x ∷ [] → all ≡ map name old ++ reverse before → all ≡ map name front ++ reverse after
named_over name all old front x before after popped pushed is =
    moved_over all (map name front) before (name x)
    (is ∙ ap (λ names. names ++ reverse before) (ap (map name) popped ∙ map-append name front (x ∷ [])))
    ∙ ap (λ names. map name front ++ reverse names) (sym pushed)

pub map_reversed : {A B : Type 0} (f : A → B) (xs : List A) → map f (reverse xs) ≡ reverse (map f xs)
map_reversed f [] = refl
map_reversed f (x ∷ xs) =
    ap (map f) (reverse-append (x ∷ []) xs) ∙ map-append f (reverse xs) (x ∷ []) ∙ ap (λ ys. ys ++ f x ∷ []) (map_reversed f xs)
    ∙ sym (reverse-append (f x ∷ []) (map f xs))

-- once nothing is left to go over, what was made in the other order has the names of all
pub all_over : {A B N : Type 0} (name : A → B) (name_of : N → B) (all left : List A) (made turned : List N) → length left ≡ 0 → turned ≡ reverse made
    → map name all ≡ map name left ++ reverse (map name_of made) → map name_of turned ≡ map name all
all_over name name_of all [] made turned none is same = ap (map name_of) is ∙ map_reversed name_of made ∙ sym same
all_over name name_of all (x ∷ left) made turned none is same = absurd (omega (arith, none))
