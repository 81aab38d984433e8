-- Decimal numbers without sign or leading zeros.
use Rattle.std.specs.Prelude.{ℕ, ◌^◌, Bool, true, false, ◌&&◌, not, List, [], ◌∷◌, Option, Some, None, ◌==◌, nat_lt, if◌then◌else◌}
use Rattle.std.specs.Char.{is_ascii_digit}
use Rattle.std.specs.List.{list_all}
use Rattle.lang_base.specs.Characters.{digits_value}

-- at least one byte, and no 0 before another
abbrev pub begins_well : List ℕ → Bool
begins_well [] = false
begins_well (d ∷ []) = true
begins_well (d ∷ e ∷ ds) = not (d == 48)

abbrev pub in_u64 : ℕ → Option ℕ
in_u64 n = if nat_lt n (2 ^ 64) then Some n else None

-- the unsigned number of 64 bits that a text spells, if it does
abbrev pub number_of : List ℕ → Option ℕ
number_of text = if list_all is_ascii_digit text && begins_well text then in_u64 (digits_value text) else None
