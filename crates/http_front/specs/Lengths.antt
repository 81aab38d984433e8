-- What the fields of a head say of its body.
use Rattle.std.specs.Prelude.{ℕ, Bool, ◌&&◌, List, [], ◌∷◌, Option, Some, None, Result, Ok, Err, length, codes, nat_lt, nat_le, if◌then◌else◌}
use Rattle.std.specs.List.{list_all}
use Rattle.lang_base.specs.Characters.{digits_value, is_digit}
use Rattle.lang_base.specs.Texts.{same_text}
use Rattle.http_header.specs.FieldValue.{FieldValue}
use Rattle.http_header.specs.HeaderMap.{Entries, get, get_all}
use Rattle.http_front.specs.declared.message.FrontRefused.{FrontRefused}
use Rattle.http_front.specs.declared.message.FrontRefused.TheVariants.{BadLength, BodyTooLong, Coding}

-- 1 to 19 digits, so that the number is one of 64 bits
abbrev pub is_length : List ℕ → Bool
is_length text = nat_lt 0 (length text) && nat_le (length text) 19 && list_all is_digit text

-- the value has these bytes
abbrev pub is_value : List ℕ → FieldValue → Bool
is_value text value = same_text text value.bytes

-- the length that the values give, 0 where there are none, unless one isn't a length or two differ
abbrev pub length_given : List FieldValue → Option ℕ
length_given [] = Some 0
length_given (value ∷ others) =
    if is_length value.bytes && list_all (is_value value.bytes) others then Some (digits_value value.bytes) else None

abbrev pub within_limit : Option ℕ → Result ℕ FrontRefused
within_limit None = Err BadLength
within_limit (Some n) = if nat_lt 65536 n then Err BodyTooLong else Ok n

-- the body's length, or why the message is refused
abbrev pub length_unless_coded : Option FieldValue → List FieldValue → Result ℕ FrontRefused
length_unless_coded (Some coding) lengths = Err Coding
length_unless_coded None lengths = within_limit (length_given lengths)

abbrev pub body_length : Entries FieldValue → Result ℕ FrontRefused
body_length head = length_unless_coded (get head (codes "transfer-encoding")) (get_all head (codes "content-length"))
