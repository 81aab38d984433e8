-- The names of a word.
use Rattle.std.proofs.Common.{◌≡◌, ℕ, Bool, true, false, List, [], ◌∷◌, Some, None, ◌++◌, refl, sym, ap, append_assoc}
use Rattle.std.specs.List.{list_all}
use Rattle.lang_core.specs.Names.{is_name}
use Rattle.dump_words.specs.Parts.{name_part, where_good}

name_by : (b : Bool) (word name : List ℕ) → where_good b (Some word) ≡ Some name → (b ≡ true) × (name ≡ word)
name_by true word name h = let same : word ≡ name = cc in (refl, sym same)
name_by false word name h = absurd cc

none_by : (b : Bool) (word : List ℕ) → where_good b (Some word) ≡ None → b ≡ false
none_by true word h = absurd cc
none_by false word h = refl

pub named_more : (piece name : List ℕ) (names more : List (List ℕ)) → Some name ≡ name_part piece
    → where_good (list_all is_name more) (Some ((names ++ name ∷ []) ++ more)) ≡ where_good (list_all is_name (piece ∷ more)) (Some (names ++ (piece ∷ more)))
named_more piece name names more h =
    let parts = name_by (is_name piece) piece name (sym h) in
    rw (parts.0, parts.1) (ap (λ (ns : List (List ℕ)). where_good (list_all is_name more) (Some ns)) (append_assoc names (piece ∷ []) more))

pub named_none : (piece : List ℕ) (names more : List (List ℕ)) → None ≡ name_part piece
    → None ≡ where_good (list_all is_name (piece ∷ more)) (Some (names ++ (piece ∷ more)))
named_none piece names more h = rw (none_by (is_name piece) piece (sym h)) refl
