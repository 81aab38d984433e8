-- How tokens are written.
use Rattle.std.specs.Prelude.{ℕ, ℤ, pos, negsuc, ◌^◌, Bool, true, false, IsTrue, List, [], ◌∷◌, ◌++◌, nat_lt, ◌==◌, if◌then◌else◌, codes}
use Rattle.std.specs.Fmt.{signed_decimal}
use Rattle.std.specs.List.{flat_map}
use Rattle.std.specs.Str.{is_utf8}
use Rattle.lang_tree.specs.Depths.{is_natural}
use Rattle.lang_tree.specs.Forms.{is_literal, is_word}
use Rattle.lang_tree.specs.Methods.{method_word}
use Rattle.lang_tokens.specs.declared.token.Token.{Token}
use Rattle.lang_tokens.specs.declared.token.Token.TheVariants as token

-- a byte of a string's text: `"`, the backslash and the line feed behind a backslash, another as it is
abbrev pub escaped : ℕ → List ℕ
escaped b = if b == 34 then 92 ∷ 34 ∷ [] else (if b == 92 then 92 ∷ 92 ∷ [] else (if b == 10 then 92 ∷ 110 ∷ [] else b ∷ []))

-- the words and the marks of the language itself
abbrev pub plain : Token → List ℕ
plain token.Route = codes "route"
plain token.Let = codes "let"
plain token.Get = codes "get"
plain token.Put = codes "put"
plain token.Drop = codes "drop"
plain token.Each = codes "each"
plain token.In = codes "in"
plain token.If = codes "if"
plain token.Else = codes "else"
plain token.Call = codes "call"
plain token.Now = codes "now"
plain token.Random = codes "random"
plain token.Reply = codes "reply"
plain token.Nothing = codes "nothing"
plain token.Body = codes "body"
plain token.Who = codes "who"
plain token.Path = codes "path"
plain token.Part = codes "part"
plain token.Number = codes "number"
plain token.AsText = codes "text"
plain token.Open = codes "{"
plain token.Close = codes "}"
plain token.Left = codes "("
plain token.Right = codes ")"
plain token.Comma = codes ","
plain token.Semicolon = codes ";"
plain token.Equals = codes "="
plain token.Less = codes "<"
plain token.Plus = codes "+"
plain token.Join = codes "++"
plain token.Minus = codes "-"
plain token.Star = codes "*"
plain _ = []

abbrev pub spelling : Token → List ℕ
spelling (token.Integer n) = signed_decimal n
spelling (token.Str text) = codes "\"" ++ (flat_map escaped text ++ codes "\"")
spelling (token.Word name) = name
spelling (token.Method m) = method_word m
spelling t = plain t

-- a line ends behind it
abbrev pub ends_line : Token → Bool
ends_line token.Open = true
ends_line token.Close = true
ends_line token.Semicolon = true
ends_line _ = false

-- what stands behind a token: a line feed behind `;`, `{` and `}`, a space behind any other
abbrev pub gap : Token → ℕ
gap t = if ends_line t then 10 else 32

abbrev pub written : Token → List ℕ
written t = spelling t ++ (gap t ∷ [])

-- tokens as they are written
abbrev pub printed : List Token → List ℕ
printed ts = flat_map written ts

abbrev pub is_small : ℤ → Bool
is_small (pos n) = nat_lt n (2 ^ 63)
is_small (negsuc n) = true

-- what a token's own types keep: an integer has 64 bits with its sign, and a text is UTF-8
abbrev pub is_held : Token → Bool
is_held (token.Integer n) = is_small n
is_held (token.Str text) = is_utf8 text
is_held _ = true

-- a token that a text can have
abbrev pub IsSpelled : Token → Type 0
IsSpelled (token.Integer n) = IsTrue (is_natural n)
IsSpelled (token.Str text) = IsTrue (is_literal text)
IsSpelled (token.Word w) = IsTrue (is_word w)
IsSpelled token.BadNumber = ⊥
IsSpelled token.BadString = ⊥
IsSpelled token.Stray = ⊥
IsSpelled _ = Unit {0}
