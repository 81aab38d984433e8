-- Labels of an order that rise, and which stand before one.
use Rattle.std.specs.Prelude.{ℕ, ◌<◌, Bool, true, List, [], ◌∷◌, Option, Some, None, nat_lt}
use Rattle.std.specs.List.{Contains}
use Rattle.place_order.specs.Labels.{place_in}

-- a label stands before all of these
abbrev pub IsBeforeAll : List ℕ → ℕ → List ℕ → Type 0
IsBeforeAll order x [] = Unit {0}
IsBeforeAll order x (y ∷ ys) = (place_in order x < place_in order y) × IsBeforeAll order x ys

-- labels of the order, in its order
abbrev pub IsRising : List ℕ → List ℕ → Type 0
IsRising order [] = Unit {0}
IsRising order (x ∷ xs) = Contains order x × IsBeforeAll order x xs × IsRising order xs

-- whether a label stands before another; each does where that is the end
abbrev pub is_before : List ℕ → Option ℕ → ℕ → Bool
is_before order None x = true
is_before order (Some end) x = nat_lt (place_in order x) (place_in order end)
