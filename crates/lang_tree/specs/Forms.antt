-- The forms that texts of a program have.
use Rattle.std.specs.Prelude.{ℕ, Bool, false, ◌&&◌, ◌||◌, not, List, [], ◌∷◌, nat_eq, nat_le, ◌==◌, length, codes}
use Rattle.std.specs.List.{list_all, starts_with}
use Rattle.lang_base.specs.Characters.{is_digit, is_lower, is_upper, is_visible}
use Rattle.lang_base.specs.Texts.{same_text}

-- a path: 1 to 1,024 visible characters, the first a slash
abbrev pub is_path : List ℕ → Bool
is_path text = starts_with nat_eq text (codes "/") && nat_le (length text) 1024 && list_all is_visible text

abbrev pub is_word_byte : ℕ → Bool
is_word_byte b = is_lower b || is_upper b || is_digit b || b == 95

abbrev pub begins_with_digit : List ℕ → Bool
begins_with_digit [] = false
begins_with_digit (b ∷ bs) = is_digit b

-- the words of the language itself
abbrev pub is_reserved : List ℕ → Bool
is_reserved w =
    same_text w (codes "route") || same_text w (codes "let") || same_text w (codes "get") || same_text w (codes "put")
    || same_text w (codes "drop") || same_text w (codes "each") || same_text w (codes "in") || same_text w (codes "if")
    || same_text w (codes "else") || same_text w (codes "call") || same_text w (codes "now") || same_text w (codes "random")
    || same_text w (codes "reply") || same_text w (codes "nothing") || same_text w (codes "body") || same_text w (codes "who")
    || same_text w (codes "path") || same_text w (codes "part") || same_text w (codes "number") || same_text w (codes "text")
    || same_text w (codes "GET") || same_text w (codes "PUT") || same_text w (codes "POST") || same_text w (codes "DELETE")

-- the name of a variable or a table: 1 to 32 letters, digits and `_`, no digit first, no word of the language
abbrev pub is_word : List ℕ → Bool
is_word w =
    not (nat_eq (length w) 0) && nat_le (length w) 32 && list_all is_word_byte w && not (begins_with_digit w) && not (is_reserved w)

-- no control character but the line feed
abbrev pub is_literal_byte : ℕ → Bool
is_literal_byte b = b == 10 || (nat_le 0x20 b && not (b == 0x7f))

-- a literal: at most 65,536 such bytes
abbrev pub is_literal : List ℕ → Bool
is_literal text = nat_le (length text) 65536 && list_all is_literal_byte text
