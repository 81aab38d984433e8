-- Numbers as texts, and texts as numbers.
use Rattle.std.specs.Prelude.{ℕ, ℤ, pos, negsuc, suc, zero, ◌+◌, ◌^◌, Bool, ◌&&◌, not, List, [], ◌∷◌, ◌++◌, Option, Some, None, if◌then◌else◌, nat_eq, nat_lt, length, codes, decimal}
use Rattle.std.specs.List.{list_all}
use Rattle.lang_base.specs.Characters.{digits_value, is_digit}

-- a signed number of 64 bits
abbrev pub fits_i64 : ℤ → Bool
fits_i64 (pos n) = nat_lt n (2 ^ 63)
fits_i64 (negsuc n) = nat_lt n (2 ^ 63)

-- a number in decimal, with a minus sign where it is below 0
abbrev pub signed_text : ℤ → List ℕ
signed_text (pos n) = decimal n
signed_text (negsuc n) = codes "-" ++ decimal (n + 1)

-- at least one digit and nothing else
abbrev pub is_digits : List ℕ → Bool
is_digits text = not (nat_eq (length text) 0) && list_all is_digit text

abbrev pub negative : ℕ → ℤ
negative zero = pos 0
negative (suc n) = negsuc n

abbrev pub in_i64 : ℤ → Option ℤ
in_i64 n = if fits_i64 n then Some n else None

-- the number after its sign
abbrev pub unsigned_number : List ℕ → (ℕ → ℤ) → Option ℤ
unsigned_number text sign = if is_digits text then in_i64 (sign (digits_value text)) else None

-- an optional minus sign and digits, as a signed number of 64 bits
abbrev pub signed_number : List ℕ → Option ℤ
signed_number [] = None
signed_number (b ∷ bs) = if nat_eq b 45 then unsigned_number bs negative else unsigned_number (b ∷ bs) pos
