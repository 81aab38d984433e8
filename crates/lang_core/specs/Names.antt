-- The forms of names and of users.
use Rattle.std.specs.Prelude.{ℕ, Bool, ◌&&◌, ◌||◌, not, List, nat_eq, nat_le, ◌==◌, length}
use Rattle.std.specs.List.{list_all}
use Rattle.lang_tree.specs.HandedOn.{is_digit, is_lower, is_visible}

abbrev pub is_name_byte : ℕ → Bool
is_name_byte b = is_lower b || is_digit b || b == 95

-- a service's name: 1 to 32 of a-z, 0-9 and `_`
abbrev pub is_name : List ℕ → Bool
is_name text = not (nat_eq (length text) 0) && nat_le (length text) 32 && list_all is_name_byte text

-- a user or a token: 1 to 64 visible characters
abbrev pub is_who : List ℕ → Bool
is_who text = not (nat_eq (length text) 0) && nat_le (length text) 64 && list_all is_visible text
