-- Posts, one more.
use Rattle.std.proofs.Common.{◌≡◌, ℕ, ◌+◌, ◌<◌, List, [], ◌∷◌, ◌++◌, Option, get_or, length, take, ap, sym, ◌∙◌, append_assoc}
use Rattle.std.specs.List.{cons_option, filter_map}
use Rattle.std.proofs.lemmas.List.{take_more}
use Rattle.std.proofs.lemmas.List.Elements.{filter_map-append}

-- what one item more of a list gives stands behind what those before it give
pub some_more : {X Y : Type 0} (h : X → Option Y) (bs now then : List Y) (xs : List X) (i : ℕ) (x : X) (o : Option Y) → i < length xs → x ≡ get_or xs i x
    → now ≡ bs ++ filter_map h (take i xs) → o ≡ h x → then ≡ now ++ cons_option o [] → then ≡ bs ++ filter_map h (take (i + 1) xs)
some_more h bs now then xs i x o lt is before gives put =
    let next : take (i + 1) xs ≡ take i xs ++ x ∷ [] = take_more xs i x lt ∙ ap (λ y. take i xs ++ y ∷ []) (sym is) in
    put ∙ ap (λ ys. ys ++ cons_option o []) before ∙ ap (λ y. (bs ++ filter_map h (take i xs)) ++ cons_option y []) gives
    ∙ append_assoc bs (filter_map h (take i xs)) (cons_option (h x) [])
    ∙ ap (λ ys. bs ++ ys) (sym (filter_map-append h (take i xs) (x ∷ [])))
    ∙ ap (λ ys. bs ++ filter_map h ys) (sym next)
