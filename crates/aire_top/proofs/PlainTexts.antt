-- Texts whose strings are of ASCII: reading them as programs needs no look at UTF-8, so it can be computed.
use Rattle.std.proofs.Common.{◌≡◌, ℕ, zero, suc, ◌<◌, ◌-◌, Bool, true, false, ◌&&◌, cond, List, [], ◌∷◌, length, get_or, Option, Some, None, Result, Ok, Err, is_ok, refl, ap, ◌∙◌, arith, ◌==◌, nat_lt, if◌then◌else◌}
use Rattle.std.specs.Char.{is_ascii_digit}
use Rattle.std.specs.List.{list_all}
use Rattle.std.specs.Str.{is_utf8}
use Rattle.std.proofs.lemmas.Bool.Decides.{nat_tests}
use Rattle.std.proofs.lemmas.Str.{IsUtf8-from_ascii, is_utf8-from_IsUtf8}
use Rattle.lang_tree.specs.declared.program.Route.{Route}
use Rattle.lang_tokens.specs.declared.token.Token.{Token}
use Rattle.lang_tokens.specs.declared.token.Token.TheVariants as token
use Rattle.lang_tokens.specs.Lexing.{Placed, is_bad, is_word_part, lex, lexed, mark_at, next_token, number_in, past_gap, placed_first, places, run, string_from, string_token, token_at, tokens, word_in}
use Rattle.lang_tokens.proofs.TextLemmas.{all_pass}
use Rattle.lang_reader.specs.Readers.{program_of}
use Rattle.lang_reader.specs.declared.stop.Stop.{Stop}
use Rattle.handler_lang.specs.Reading.{placed, read_of}

-- ---- bytes of ASCII

abbrev is_small : ℕ → Bool
is_small b = nat_lt b 128

small_byte : (b : ℕ) → is_small b ≡ true → b < 128
small_byte b h = grind (arith, nat_tests)

all_small : (w : List ℕ) → list_all is_small w ≡ true → (i : ℕ) → get_or w i 0 < 128
all_small [] h i = omega arith
all_small (b ∷ w) h zero = small_byte b (all_pass is_small b w h).0
all_small (b ∷ w) h (suc i) = all_small w (all_pass is_small b w h).1 i

small_utf8 : (w : List ℕ) → list_all is_small w ≡ true → is_utf8 w ≡ true
small_utf8 w h = is_utf8-from_IsUtf8 w (IsUtf8-from_ascii w (all_small w h))

-- ---- tokens, where each string is of ASCII

abbrev plain_string : Option (List ℕ × List ℕ) → Token × List ℕ
plain_string None = (token.BadString, [])
plain_string (Some x) = (token.Str x.0, x.1)

abbrev is_plain : Option (List ℕ × List ℕ) → Bool
is_plain None = true
is_plain (Some x) = list_all is_small x.0

string_same : (o : Option (List ℕ × List ℕ)) → is_plain o ≡ true → string_token o ≡ plain_string o
string_same None h = refl
string_same (Some x) h = rw (small_utf8 x.0 h) refl

unfoldable pub plain_at : ℕ → List ℕ → Token × List ℕ
plain_at b bs =
    if is_ascii_digit b then number_in (run is_ascii_digit (b ∷ bs))
    else (if is_word_part b then word_in (run is_word_part (b ∷ bs))
    else (if b == 34 then plain_string (string_from bs)
    else mark_at b bs))

unfoldable pub is_plain_at : ℕ → List ℕ → Bool
is_plain_at b bs = if is_ascii_digit b then true else (if is_word_part b then true else (if b == 34 then is_plain (string_from bs) else true))

by_kind : (d w q : Bool) (x y m : Token × List ℕ) (o : Option (List ℕ × List ℕ)) → cond d true (cond w true (cond q (is_plain o) true)) ≡ true
    → cond d x (cond w y (cond q (string_token o) m)) ≡ cond d x (cond w y (cond q (plain_string o) m))
by_kind true w q x y m o h = refl
by_kind false true q x y m o h = refl
by_kind false false true x y m o h = string_same o h
by_kind false false false x y m o h = refl

at_same : (b : ℕ) (bs : List ℕ) → is_plain_at b bs ≡ true → token_at b bs ≡ plain_at b bs
unfolding token_at plain_at is_plain_at
at_same b bs h = by_kind (is_ascii_digit b) (is_word_part b) (b == 34) (number_in (run is_ascii_digit (b ∷ bs))) (word_in (run is_word_part (b ∷ bs))) (mark_at b bs) (string_from bs) h

abbrev next_plain : List ℕ → Option (Token × List ℕ)
next_plain [] = None
next_plain (b ∷ bs) = Some (plain_at b bs)

unfoldable pub plain : ℕ → ℕ → List ℕ → List Placed
plain zero total bs = []
plain (suc n) total bs = placed_first (plain n total) (total - length (past_gap false bs)) (next_plain (past_gap false bs))

abbrev are_plain_from : (List ℕ → Bool) → List ℕ → Bool
are_plain_from next [] = true
are_plain_from next (b ∷ bs) = is_plain_at b bs && next (plain_at b bs).1

unfoldable pub are_plain : ℕ → List ℕ → Bool
are_plain zero bs = true
are_plain (suc n) bs = are_plain_from (are_plain n) (past_gap false bs)

both : (a b : Bool) → (a && b) ≡ true → (a ≡ true) × (b ≡ true)
both true b h = (refl, h)
both false b h = cc

step_same : (next plainly : List ℕ → List Placed) (test : List ℕ → Bool) → ((bs : List ℕ) → test bs ≡ true → next bs ≡ plainly bs) → (at : ℕ) (rest : List ℕ) → are_plain_from test rest ≡ true
    → placed_first next at (next_token rest) ≡ placed_first plainly at (next_plain rest)
step_same next plainly test same at [] h = refl
step_same next plainly test same at (b ∷ bs) h =
    let parts = both (is_plain_at b bs) (test (plain_at b bs).1) h in
    let F : Token × List ℕ → List Placed = λ t. placed_first next at (Some t) in
    let G : List Placed → List Placed = λ l. record { at = at; token = (plain_at b bs).0 } ∷ (if is_bad (plain_at b bs).0 then [] else l) in
    ap F (at_same b bs parts.0) ∙ ap G (same (plain_at b bs).1 parts.1)

lexed_same : (n total : ℕ) (bs : List ℕ) → are_plain n bs ≡ true → lexed n total bs ≡ plain n total bs
unfolding lexed plain are_plain
lexed_same zero total bs h = refl
lexed_same (suc n) total bs h = step_same (lexed n total) (plain n total) (are_plain n) (lexed_same n total) (total - length (past_gap false bs)) (past_gap false bs) h

-- ---- programs

-- where the strings of a short text are plain, and its tokens, found so, are a program, the text is read

placed_ok : (total : ℕ) (ats : List ℕ) (r : Result (List Route) Stop) → is_ok r ≡ true → is_ok (placed total ats r) ≡ true
placed_ok total ats (Ok routes) h = refl
placed_ok total ats (Err s) h = cc

pub plain_read : (text : List ℕ) → nat_lt 65536 (length text) ≡ false → are_plain (length text) text ≡ true → is_ok (program_of (tokens (plain (length text) (length text) text))) ≡ true → is_ok (read_of text) ≡ true
plain_read text short plainly read =
    let same : lex text ≡ plain (length text) (length text) text = lexed_same (length text) (length text) text plainly in
    let there : is_ok (program_of (tokens (lex text))) ≡ true = ap (λ (ps : List Placed). is_ok (program_of (tokens ps))) same ∙ read in
    rw short (placed_ok (length text) (places (lex text)) (program_of (tokens (lex text))) there)
