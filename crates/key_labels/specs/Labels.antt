-- Lists of labels.
use Rattle.std.specs.Prelude.{ℕ, ◌≡◌, Bool, false, List, [], ◌∷◌, ◌++◌, Option, Some, not, nat_eq, filter}
use Rattle.std.specs.List.{AllByRecursion}
use Rattle.place_order.specs.Rising.{is_before}

abbrev pub is_other : ℕ → ℕ → Bool
is_other x y = not (nat_eq y x)

-- labels with one more, which isn't there
abbrev pub with_label : List ℕ → ℕ → List ℕ → List ℕ
with_label order x xs = filter (is_before order (Some x)) xs ++ x ∷ filter (λ y. not (is_before order (Some x) y)) xs

-- those that don't stand before a label; none where that is the end
abbrev pub behind : List ℕ → Option ℕ → List ℕ → List ℕ
behind order end xs = filter (λ x. not (is_before order end x)) xs

-- no two of these are equal
abbrev pub IsApart : List ℕ → Type 0
IsApart [] = Unit {0}
IsApart (x ∷ xs) = AllByRecursion (λ y. nat_eq y x ≡ false) xs × IsApart xs
