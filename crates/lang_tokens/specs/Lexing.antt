-- The tokens of a text, from left to right: at each place the longest one that stands there, behind blank space and
-- comments. Behind what is no token, nothing is looked for.
use Rattle.std.specs.Prelude.{ℕ, zero, suc, pos, ◌-◌, ◌^◌, Bool, true, false, not, ◌&&◌, ◌||◌, List, [], ◌∷◌, map, length, take, drop, Option, Some, None, nat_lt, ◌==◌, if◌then◌else◌, codes}
use Rattle.std.specs.Char.{is_ascii_digit}
use Rattle.std.specs.List.{prefix_len}
use Rattle.std.specs.Str.{is_utf8}
use Rattle.std.specs.Str.Parse.{digits_value}
use Rattle.lang_base.specs.Texts.{same_text}
use Rattle.lang_tree.specs.Forms.{is_word_byte}
use Rattle.lang_tree.specs.declared.method.Method.TheVariants as methods
use Rattle.lang_tokens.specs.declared.token.Token.{Token}
use Rattle.lang_tokens.specs.declared.token.Token.TheVariants as token

-- space, tab, carriage return, line feed
abbrev pub is_blank : ℕ → Bool
is_blank b = b == 32 || b == 9 || b == 13 || b == 10

-- a letter, a digit or `_`
unfoldable pub is_word_part : ℕ → Bool
is_word_part b = is_word_byte b

abbrev pub is_control : ℕ → Bool
is_control b = nat_lt b 32 || b == 127

-- what stands behind blank space and comments, which go from `#` up to the line's end; within a comment or not
unfoldable pub past_gap : Bool → List ℕ → List ℕ
past_gap within [] = []
past_gap true (b ∷ bs) = past_gap (not (b == 10)) bs
past_gap false (b ∷ bs) = if b == 35 then past_gap true bs else (if is_blank b then past_gap false bs else b ∷ bs)

-- the longest run of bytes that pass the test, and what stands behind it
unfoldable pub run : (ℕ → Bool) → List ℕ → List ℕ × List ℕ
run p bs = (take (prefix_len p bs) bs, drop (prefix_len p bs) bs)

-- at least one digit, and no 0 before another
abbrev pub is_numeral : List ℕ → Bool
is_numeral [] = false
is_numeral (d ∷ []) = true
is_numeral (d ∷ e ∷ ds) = not (d == 48)

abbrev pub number : List ℕ → Token
number ds = if is_numeral ds && nat_lt (digits_value 10 ds) (2 ^ 63) then token.Integer (pos (digits_value 10 ds)) else token.BadNumber

-- the words that the language reserves
unfoldable pub quoted : List ℕ → Option Token
quoted w =
    if same_text w (codes "route") then Some token.Route
    else (if same_text w (codes "let") then Some token.Let
    else (if same_text w (codes "get") then Some token.Get
    else (if same_text w (codes "put") then Some token.Put
    else (if same_text w (codes "drop") then Some token.Drop
    else (if same_text w (codes "each") then Some token.Each
    else (if same_text w (codes "in") then Some token.In
    else (if same_text w (codes "if") then Some token.If
    else (if same_text w (codes "else") then Some token.Else
    else (if same_text w (codes "call") then Some token.Call
    else (if same_text w (codes "now") then Some token.Now
    else (if same_text w (codes "random") then Some token.Random
    else (if same_text w (codes "reply") then Some token.Reply
    else (if same_text w (codes "nothing") then Some token.Nothing
    else (if same_text w (codes "body") then Some token.Body
    else (if same_text w (codes "who") then Some token.Who
    else (if same_text w (codes "path") then Some token.Path
    else (if same_text w (codes "part") then Some token.Part
    else (if same_text w (codes "number") then Some token.Number
    else (if same_text w (codes "text") then Some token.AsText
    else (if same_text w (codes "GET") then Some (token.Method methods.Get)
    else (if same_text w (codes "PUT") then Some (token.Method methods.Put)
    else (if same_text w (codes "POST") then Some (token.Method methods.Post)
    else (if same_text w (codes "DELETE") then Some (token.Method methods.Delete)
    else None)))))))))))))))))))))))

abbrev pub quoted_or : Option Token → List ℕ → Token
quoted_or (Some t) w = t
quoted_or None w = if nat_lt 32 (length w) then token.Stray else token.Word w

-- a run of word bytes that doesn't begin with a digit, by whether it is reserved and how long it is
abbrev pub word : List ℕ → Token
word w = quoted_or (quoted w) w

-- the character behind a backslash, by what it stands for
abbrev pub unescaped : ℕ → Option ℕ
unescaped c = if c == 110 then Some 10 else (if c == 34 || c == 92 then Some c else None)

abbrev pub in_front : ℕ → Option (List ℕ × List ℕ) → Option (List ℕ × List ℕ)
in_front b None = None
in_front b (Some x) = Some (b ∷ x.0, x.1)

abbrev pub in_front_if : Option ℕ → Option (List ℕ × List ℕ) → Option (List ℕ × List ℕ)
in_front_if None read = None
in_front_if (Some b) read = in_front b read

-- the text of a string behind its opening `"`, and what stands behind the closing one; none where the string is
-- ill-formed
unfoldable pub string_from : List ℕ → Option (List ℕ × List ℕ)
string_from [] = None
string_from (b ∷ []) = if b == 34 then Some ([], []) else None
string_from (b ∷ c ∷ cs) =
    if b == 34 then Some ([], c ∷ cs)
    else (if b == 92 then in_front_if (unescaped c) (string_from cs)
    else (if is_control b then None else in_front b (string_from (c ∷ cs))))

abbrev pub with_rest : List ℕ → Option ℕ → Option (Option ℕ × List ℕ)
with_rest rest None = None
with_rest rest (Some c) = Some (Some c, rest)

abbrev pub escape_at : List ℕ → Option (Option ℕ × List ℕ)
escape_at [] = None
escape_at (c ∷ cs) = with_rest cs (unescaped c)

-- one character of a string, or none for its end, and what stands behind; nothing where the string is ill-formed
unfoldable pub character_at : List ℕ → Option (Option ℕ × List ℕ)
character_at [] = None
character_at (b ∷ bs) = if b == 34 then Some (None, bs) else (if b == 92 then escape_at bs else (if is_control b then None else Some (Some b, bs)))

abbrev pub text_if : Bool → List ℕ → Option (List ℕ)
text_if true text = Some text
text_if false text = None

abbrev pub text_or_bad : List ℕ → Option (List ℕ) → Token × List ℕ
text_or_bad rest None = (token.BadString, [])
text_or_bad rest (Some text) = (token.Str text, rest)

-- A string that is no UTF-8 is ill-formed too; none stands in a text that is.
abbrev pub string_token : Option (List ℕ × List ℕ) → Token × List ℕ
string_token None = (token.BadString, [])
string_token (Some x) = text_or_bad x.1 (text_if (is_utf8 x.0) x.0)

abbrev pub plus_at : List ℕ → Token × List ℕ
plus_at [] = (token.Plus, [])
plus_at (c ∷ cs) = if c == 43 then (token.Join, cs) else (token.Plus, c ∷ cs)

unfoldable pub mark_at : ℕ → List ℕ → Token × List ℕ
mark_at b bs =
    if b == 123 then (token.Open, bs)
    else (if b == 125 then (token.Close, bs)
    else (if b == 40 then (token.Left, bs)
    else (if b == 41 then (token.Right, bs)
    else (if b == 44 then (token.Comma, bs)
    else (if b == 59 then (token.Semicolon, bs)
    else (if b == 61 then (token.Equals, bs)
    else (if b == 60 then (token.Less, bs)
    else (if b == 43 then plus_at bs
    else (if b == 45 then (token.Minus, bs)
    else (if b == 42 then (token.Star, bs)
    else (token.Stray, bs)))))))))))

abbrev pub number_in : List ℕ × List ℕ → Token × List ℕ
number_in r = (number r.0, r.1)

abbrev pub word_in : List ℕ × List ℕ → Token × List ℕ
word_in r = (word r.0, r.1)

-- the token that begins with this byte, and what stands behind it
unfoldable pub token_at : ℕ → List ℕ → Token × List ℕ
token_at b bs =
    if is_ascii_digit b then number_in (run is_ascii_digit (b ∷ bs))
    else (if is_word_part b then word_in (run is_word_part (b ∷ bs))
    else (if b == 34 then string_token (string_from bs)
    else mark_at b bs))

abbrev pub next_token : List ℕ → Option (Token × List ℕ)
next_token [] = None
next_token (b ∷ bs) = Some (token_at b bs)

-- it is no token, and none is looked for behind it
abbrev pub is_bad : Token → Bool
is_bad token.BadNumber = true
is_bad token.BadString = true
is_bad token.Stray = true
is_bad _ = false

-- a token, and the place of its first byte
pub record Placed : Type 0 where
  pub at : ℕ
  pub token : Token

abbrev pub placed_first : (List ℕ → List Placed) → ℕ → Option (Token × List ℕ) → List Placed
placed_first next at None = []
placed_first next at (Some t) = record { at = at; token = t.0 } ∷ (if is_bad t.0 then [] else next t.1)

-- the tokens of what is left of a text of so many bytes, at most so many
unfoldable pub lexed : ℕ → ℕ → List ℕ → List Placed
lexed zero total bs = []
lexed (suc n) total bs = placed_first (lexed n total) (total - length (past_gap false bs)) (next_token (past_gap false bs))

-- the tokens of a text, each of which takes a byte at least
abbrev pub lex : List ℕ → List Placed
lex text = lexed (length text) (length text) text

abbrev pub token_of : Placed → Token
token_of p = p.token

abbrev pub start_of : Placed → ℕ
start_of p = p.at

abbrev pub tokens : List Placed → List Token
tokens ps = map token_of ps

abbrev pub places : List Placed → List ℕ
places ps = map start_of ps
