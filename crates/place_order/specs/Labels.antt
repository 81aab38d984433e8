-- Labels in an order.
use Rattle.std.specs.Prelude.{ℕ, List, nat_eq}
use Rattle.std.specs.List.{Contains, position_or_len}

-- where a label stands
abbrev pub place_in : List ℕ → ℕ → ℕ
place_in labels label = position_or_len (λ x. nat_eq x label) labels

-- the label stands nowhere
abbrev pub IsNew : ℕ → List ℕ → Type 0
IsNew label labels = Contains labels label → ⊥
