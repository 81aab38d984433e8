-- The pieces of a text that is cut at each separator.
use Rattle.std.specs.Prelude.{ℕ, zero, suc, List, [], ◌∷◌, Option, Some, None, nat_eq, if◌then◌else◌, length, drop}
use Rattle.std.specs.List.{starts_with}

abbrev pub after_byte : ℕ → Option (List ℕ × List ℕ) → Option (List ℕ × List ℕ)
after_byte b None = None
after_byte b (Some p) = Some (b ∷ p.0, p.1)

-- the text before the first place of the separator, and after it
abbrev pub cut : List ℕ → List ℕ → Option (List ℕ × List ℕ)
cut by [] = if starts_with nat_eq [] by then Some ([], drop (length by) []) else None
cut by (b ∷ bs) =
    if starts_with nat_eq (b ∷ bs) by then Some ([], drop (length by) (b ∷ bs)) else after_byte b (cut by bs)

abbrev pub front : List ℕ → Option (List ℕ × List ℕ) → List ℕ
front text None = text
front text (Some p) = p.0

abbrev pub go_past : Option (List ℕ × List ℕ) → (List ℕ → Option (List ℕ)) → Option (List ℕ)
go_past None next = None
go_past (Some p) next = next p.1

-- piece n, counted from 0
abbrev pub piece : ℕ → List ℕ → List ℕ → Option (List ℕ)
piece zero by text = Some (front text (cut by text))
piece (suc n) by text = go_past (cut by text) (piece n by)
