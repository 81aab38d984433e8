-- Numbers that rise.
use Rattle.std.specs.Prelude.{ℕ, ◌<◌, List, [], ◌∷◌, ◌++◌, nat_lt, filter}
use Rattle.std.specs.List.{AllByRecursion}

-- each is above those before it
abbrev pub Rises : List ℕ → Type 0
Rises [] = Unit {0}
Rises (x ∷ xs) = AllByRecursion (λ y. x < y) xs × Rises xs

-- with one more, if it isn't there yet
abbrev pub with_number : ℕ → List ℕ → List ℕ
with_number n xs = filter (λ x. nat_lt x n) xs ++ n ∷ filter (λ x. nat_lt n x) xs

abbrev pub with_numbers : List ℕ → List ℕ → List ℕ
with_numbers [] xs = xs
with_numbers (n ∷ ns) xs = with_numbers ns (with_number n xs)
