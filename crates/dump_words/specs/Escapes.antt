-- The escapes of texts and of keys.
use Rattle.std.specs.Prelude.{ℕ, Bool, true, false, ◌&&◌, List, [], ◌∷◌, ◌++◌, length, Option, Some, None, if◌then◌else◌, nat_lt, ◌==◌}
use Rattle.std.specs.List.{position_or_len, before_first, after_first}
use Rattle.std.specs.Option.{option_map}

-- what a byte behind a backslash stands for; in a key `s` does too
abbrev pub escape_of : Bool → ℕ → Option ℕ
escape_of in_key b =
    if b == 92 then Some 92
    else (if b == 110 then Some 10
    else (if b == 114 then Some 13
    else (if in_key && b == 115 then Some 32
    else None)))

-- a byte, and then others, where both are there
abbrev pub byte_before : Option ℕ → Option (List ℕ) → Option (List ℕ)
byte_before None rest = None
byte_before (Some b) None = None
byte_before (Some b) (Some rest) = Some (b ∷ rest)

-- what bytes stand for, behind a backslash or not; none where a backslash is no escape
abbrev pub unescaped_from : Bool → List ℕ → Bool → Option (List ℕ)
unescaped_from in_key [] true = None
unescaped_from in_key [] false = Some []
unescaped_from in_key (b ∷ bytes) true = byte_before (escape_of in_key b) (unescaped_from in_key bytes false)
unescaped_from in_key (b ∷ bytes) false =
    if b == 92 then unescaped_from in_key bytes true else byte_before (Some b) (unescaped_from in_key bytes false)

-- what a key, or another text, stands for
abbrev pub unescaped : Bool → List ℕ → Option (List ℕ)
unescaped in_key text = unescaped_from in_key text false

-- ---- piece by piece

-- what stands before the first backslash and what behind it, if there is one
abbrev pub at_backslash : List ℕ → Option (List ℕ × List ℕ)
at_backslash text =
    if nat_lt (position_or_len (λ b. b == 92) text) (length text)
    then Some (before_first (λ b. b == 92) text, after_first (λ b. b == 92) text) else None

-- what the first byte behind a backslash stands for, and what stands behind it
abbrev pub escape_at : Bool → List ℕ → Option (List ℕ × List ℕ)
escape_at in_key [] = None
escape_at in_key (b ∷ bytes) = option_map (λ e. (e ∷ [], bytes)) (escape_of in_key b)

-- bytes, and what others stand for
abbrev pub glued : List ℕ → Option (List ℕ) → Option (List ℕ)
glued front rest = option_map (λ bytes. front ++ bytes) rest
