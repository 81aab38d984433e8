-- Where the head of a message ends.
use Rattle.std.specs.Prelude.{◌≡◌, ℕ, ◌<◌, Bool, false, ◌&&◌, ◌||◌, not, List, [], ◌∷◌, length, take, nat_eq, ◌==◌, IsTrue}
use Rattle.std.specs.List.{ends_with, list_any}

-- neither CR nor LF
abbrev pub is_of_line : ℕ → Bool
is_of_line byte = not (byte == 13 || byte == 10)

-- LF LF or LF CR LF stands last
abbrev pub ends_with_blank_line : List ℕ → Bool
ends_with_blank_line bytes = ends_with nat_eq bytes (10 ∷ 10 ∷ []) || ends_with nat_eq bytes (10 ∷ 13 ∷ 10 ∷ [])

-- it stands last, behind a byte that is neither CR nor LF
unfoldable pub ends_head : List ℕ → Bool
ends_head bytes = ends_with_blank_line bytes && list_any is_of_line bytes

-- these bytes end a head, and no front of them does
abbrev pub IsWholeHead : List ℕ → Type 0
IsWholeHead bytes = IsTrue (ends_head bytes) × ((n : ℕ) → n < length bytes → ends_head (take n bytes) ≡ false)
