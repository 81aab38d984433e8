-- The parts of a line; none where a part is missing, or isn't of its form.
use Rattle.std.specs.Prelude.{ℕ, Bool, true, false, ◌&&◌, not, nat_eq, List, [], length, Option, Some, None, if◌then◌else◌, nat_lt, nat_le, ◌==◌, codes}
use Rattle.std.specs.List.{slice_split, list_all}
use Rattle.lang_base.specs.Texts.{same_text}
use Rattle.lang_tree.specs.Forms.{is_word}
use Rattle.lang_core.specs.Names.{is_name}
use Rattle.lang_core.specs.declared.ids.Origin.{Origin}
use Rattle.lang_core.specs.declared.ids.Origin.TheVariants.{Outside, Call}
use Rattle.request_names.specs.Ids.{id_of}
pub use Rattle.request_names.specs.Words.{at_end, cut_at, name_part, path_part, where_good, who_part, with_part, with_word}
use Rattle.dump_words.specs.Escapes.{unescaped}

-- a word alone
abbrev pub alone : Option (List ℕ) → Option (List ℕ)
alone rest = with_word rest (λ word rest. at_end rest (Some word))

-- ---- words

abbrev pub table_part : List ℕ → Option (List ℕ)
table_part word = where_good (is_word word) (Some word)

-- names with commas between them, or `-` where there is none
abbrev pub names_part : List ℕ → Option (List (List ℕ))
names_part word =
    if same_text word (codes "-") then Some []
    else where_good (list_all is_name (slice_split (λ b. b == 44) word)) (Some (slice_split (λ b. b == 44) word))

-- 1 for yes and 0 for no
abbrev pub flag_part : List ℕ → Option Bool
flag_part word =
    if same_text word (codes "1") then Some true else (if same_text word (codes "0") then Some false else None)

-- a number from 1
abbrev pub from_one : Option ℕ → Option ℕ
from_one None = None
from_one (Some n) = where_good (not (nat_eq n 0)) (Some n)

-- a status is a number of 16 bits
abbrev pub in_u16 : Option ℕ → Option ℕ
in_u16 None = None
in_u16 (Some n) = where_good (nat_le n 65535) (Some n)

-- no clock tells a later moment
abbrev pub moment_of : Option ℕ → Option ℕ
moment_of None = None
moment_of (Some n) = where_good (nat_le n 9223372036854775807) (Some n)

abbrev pub call_origin : Option (List ℕ × ℕ) → Option Origin
call_origin None = None
call_origin (Some id) = with_part (name_part id.0) (λ caller. Some (Call caller id.1))

-- `out`, or the name of a call
abbrev pub origin_part : List ℕ → Option Origin
origin_part word = if same_text word (codes "out") then Some Outside else call_origin (id_of word)

-- ---- texts

-- of so many bytes, at least and at most
abbrev pub within : ℕ → ℕ → Option (List ℕ) → Option (List ℕ)
within least most None = None
within least most (Some text) = where_good (nat_le least (length text) && nat_le (length text) most) (Some text)

-- a key: 1 to 256 bytes, once its escapes are read
abbrev pub key_part : List ℕ → Option (List ℕ)
key_part word = within 1 256 (unescaped true word)

-- a text at the end of a line; an empty one leaves out its space
abbrev pub text_behind : Option (List ℕ) → Option (List ℕ)
text_behind None = Some []
text_behind (Some text) = if nat_eq (length text) 0 then None else unescaped false text

-- the same of at most 65,536 bytes
abbrev pub body_behind : Option (List ℕ) → Option (List ℕ)
body_behind rest = within 0 65536 (text_behind rest)
