-- What is known of the tokens of a text.
use Rattle.std.proofs.Common.{◌≡◌, ℕ, pos, zero, suc, ◌+◌, ◌≤◌, ◌<◌, Bool, true, false, not, cond, List, [], ◌∷◌, length, take, drop, Option, Some, None, refl, ap, ◌∙◌, arith}
use Rattle.std.specs.Prelude.{nat_eq, nat_lt, nat_le, ◌&&◌, ◌||◌, codes}
use Rattle.std.specs.Char.{is_ascii_digit}
use Rattle.std.specs.List.{AllByRecursion, list_all, prefix_len}
use Rattle.std.specs.Str.{is_utf8}
use Rattle.std.specs.Str.Parse.{digits_value}
use Rattle.std.proofs.lemmas.Bool.Decides.{nat_tests}
use Rattle.std.proofs.lemmas.List.{length-drop}
use Rattle.std.proofs.lemmas.Bool.{and_from}
use Rattle.lang_tree.specs.Depths.{is_natural}
use Rattle.lang_base.specs.Texts.{same_text}
use Rattle.lang_tree.specs.Forms.{begins_with_digit, is_literal, is_literal_byte, is_reserved, is_word, is_word_byte}
use Rattle.lang_tree.specs.declared.method.Method.TheVariants as methods
use Rattle.lang_tokens.specs.declared.token.Token.{Token}
use Rattle.lang_tokens.specs.declared.token.Token.TheVariants as token
use Rattle.lang_tokens.specs.Lexing.{Placed, in_front, in_front_if, is_bad, is_blank, is_control, is_numeral, is_word_part, lex, lexed, mark_at, next_token, number, number_in, past_gap, placed_first, plus_at, quoted, quoted_or, run, string_from, string_token, text_if, text_or_bad, token_at, tokens, unescaped, word, word_in}
use Rattle.lang_tokens.proofs.GapLemmas.{all_in_run}

-- what is known of a token of a text of at most 65,536 bytes
abbrev pub IsKept : Token → Type 0
IsKept (token.Integer n) = is_natural n ≡ true
IsKept (token.Str text) = is_literal text ≡ true
IsKept (token.Word name) = is_word name ≡ true
IsKept _ = Unit {0}

abbrev pub AreKept : List Token → Type 0
AreKept ts = AllByRecursion IsKept ts

-- a token that stands in front of these bytes, and what stands behind it
record IsCut (t : Token × List ℕ) (bs : List ℕ) : Type 0 where
  kept : IsKept t.0
  short : length t.1 ≤ length bs

-- ---- numbers

number_by : (b : Bool) (n : ℕ) → IsKept (cond b (token.Integer (pos n)) token.BadNumber)
number_by true n = refl
number_by false n = tt

number_kept : (ds : List ℕ) → IsKept (number ds)
number_kept ds = number_by (is_numeral ds && nat_lt (digits_value 10 ds) 9223372036854775808) (digits_value 10 ds)

drop_short : (n : ℕ) (bs : List ℕ) → length (drop n bs) ≤ length bs
drop_short n bs = omega (arith, length-drop n bs)

number_cut : (bs : List ℕ) → IsCut (number_in (run is_ascii_digit bs)) bs
unfolding run
number_cut bs = record { kept = number_kept (take (prefix_len is_ascii_digit bs) bs); short = drop_short (prefix_len is_ascii_digit bs) bs }

-- ---- words

abbrev KeptOr : Option Token → Type 0
KeptOr None = Unit {0}
KeptOr (Some t) = IsKept t

-- none, or a token of which this is known
record IsKeptOr (o : Option Token) : Type 0 where
  is : KeptOr o

kept_or : {more : Option Token} (b : Bool) (u : Token) → IsKept u → IsKeptOr more → IsKeptOr (cond b (Some u) more)
kept_or true u h g = record { is = h }
kept_or false u h g = g

quoted_kept : (w : List ℕ) → IsKeptOr (quoted w)
unfolding quoted
quoted_kept w = kept_or (same_text w (codes "route")) token.Route tt (kept_or (same_text w (codes "let")) token.Let tt (kept_or (same_text w (codes "get")) token.Get tt (kept_or (same_text w (codes "put")) token.Put tt (kept_or (same_text w (codes "drop")) token.Drop tt (kept_or (same_text w (codes "each")) token.Each tt (kept_or (same_text w (codes "in")) token.In tt (kept_or (same_text w (codes "if")) token.If tt (kept_or (same_text w (codes "else")) token.Else tt (kept_or (same_text w (codes "call")) token.Call tt (kept_or (same_text w (codes "now")) token.Now tt (kept_or (same_text w (codes "random")) token.Random tt (kept_or (same_text w (codes "reply")) token.Reply tt (kept_or (same_text w (codes "nothing")) token.Nothing tt (kept_or (same_text w (codes "body")) token.Body tt (kept_or (same_text w (codes "who")) token.Who tt (kept_or (same_text w (codes "path")) token.Path tt (kept_or (same_text w (codes "part")) token.Part tt (kept_or (same_text w (codes "number")) token.Number tt (kept_or (same_text w (codes "text")) token.AsText tt (kept_or (same_text w (codes "GET")) (token.Method methods.Get) tt (kept_or (same_text w (codes "PUT")) (token.Method methods.Put) tt (kept_or (same_text w (codes "POST")) (token.Method methods.Post) tt (kept_or (same_text w (codes "DELETE")) (token.Method methods.Delete) tt (record { is = tt }))))))))))))))))))))))))

-- neither what was tried before nor this word
record IsOther (acc : Bool) (o : Option Token) : Type 0 where
  differs : acc ≡ false
  none : o ≡ None

tried : (acc a : Bool) (u : Token) (more : Option Token) → IsOther acc (cond a (Some u) more) → IsOther (acc || a) more
tried true a u more h = absurd (let e = h.differs in cc)
tried false true u more h = absurd (let e = h.none in cc)
tried false false u more h = record { differs = refl; none = h.none }

first_tried : (a : Bool) (u : Token) (more : Option Token) → cond a (Some u) more ≡ None → IsOther a more
first_tried true u more h = absurd cc
first_tried false u more h = record { differs = refl; none = h }

not_reserved : (w : List ℕ) → quoted w ≡ None → is_reserved w ≡ false
unfolding quoted
not_reserved w h = (tried _ (same_text w (codes "DELETE")) (token.Method methods.Delete) _ (tried _ (same_text w (codes "POST")) (token.Method methods.Post) _ (tried _ (same_text w (codes "PUT")) (token.Method methods.Put) _ (tried _ (same_text w (codes "GET")) (token.Method methods.Get) _ (tried _ (same_text w (codes "text")) token.AsText _ (tried _ (same_text w (codes "number")) token.Number _ (tried _ (same_text w (codes "part")) token.Part _ (tried _ (same_text w (codes "path")) token.Path _ (tried _ (same_text w (codes "who")) token.Who _ (tried _ (same_text w (codes "body")) token.Body _ (tried _ (same_text w (codes "nothing")) token.Nothing _ (tried _ (same_text w (codes "reply")) token.Reply _ (tried _ (same_text w (codes "random")) token.Random _ (tried _ (same_text w (codes "now")) token.Now _ (tried _ (same_text w (codes "call")) token.Call _ (tried _ (same_text w (codes "else")) token.Else _ (tried _ (same_text w (codes "if")) token.If _ (tried _ (same_text w (codes "in")) token.In _ (tried _ (same_text w (codes "each")) token.Each _ (tried _ (same_text w (codes "drop")) token.Drop _ (tried _ (same_text w (codes "put")) token.Put _ (tried _ (same_text w (codes "get")) token.Get _ (tried _ (same_text w (codes "let")) token.Let _ (first_tried (same_text w (codes "route")) token.Route _ h)))))))))))))))))))))))).differs

abbrev no_digit : List ℕ → Type 0
no_digit w = begins_with_digit w ≡ false

record IsRun (w : List ℕ) : Type 0 where
  some : 0 < length w
  parts : list_all is_word_byte w ≡ true
  begins : begins_with_digit w ≡ false

named : (w : List ℕ) → IsRun w → nat_lt 32 (length w) ≡ false → is_reserved w ≡ false → is_word w ≡ true
named w r short free =
    let some : not (nat_eq (length w) 0) ≡ true = (let k : nat_eq (length w) 0 ≡ false = (let h = r.some in grind (arith, nat_tests)) in rw k refl) in
    let le : nat_le (length w) 32 ≡ true = grind (arith, nat_tests) in
    rw (some, le, r.parts, r.begins, free) refl

word_by : (w : List ℕ) (b : Bool) → IsRun w → nat_lt 32 (length w) ≡ b → is_reserved w ≡ false → IsKept (cond b token.Stray (token.Word w))
word_by w true r e free = tt
word_by w false r e free = named w r e free

word_or : (w : List ℕ) (o : Option Token) → IsRun w → quoted w ≡ o → IsKeptOr o → IsKept (quoted_or o w)
word_or w (Some t) r e k = k.is
word_or w None r e k = word_by w (nat_lt 32 (length w)) r refl (not_reserved w e)

word_kept : (w : List ℕ) → IsRun w → IsKept (word w)
word_kept w r = word_or w (quoted w) r refl (quoted_kept w)

run_first : (p : ℕ → Bool) (b : ℕ) (bs : List ℕ) → p b ≡ true → take (prefix_len p (b ∷ bs)) (b ∷ bs) ≡ b ∷ take (prefix_len p bs) bs
run_first p b bs e = let one : 1 + prefix_len p bs ≡ suc (prefix_len p bs) = omega arith in rw (e, one) refl

word_run : (b : ℕ) (bs : List ℕ) → is_ascii_digit b ≡ false → is_word_part b ≡ true → IsRun (take (prefix_len is_word_part (b ∷ bs)) (b ∷ bs))
unfolding is_word_part
word_run b bs digit part =
    let e = run_first is_word_part b bs part in
    record {
      some = rw e (omega arith);
      parts = all_in_run is_word_part (b ∷ bs);
      begins = ap begins_with_digit e ∙ digit;
    }

word_cut : (b : ℕ) (bs : List ℕ) → is_ascii_digit b ≡ false → is_word_part b ≡ true → IsCut (word_in (run is_word_part (b ∷ bs))) (b ∷ bs)
unfolding run
word_cut b bs digit part = record { kept = word_kept (take (prefix_len is_word_part (b ∷ bs)) (b ∷ bs)) (word_run b bs digit part); short = drop_short (prefix_len is_word_part (b ∷ bs)) (b ∷ bs) }

-- ---- strings

abbrev Within : List ℕ → Option (List ℕ × List ℕ) → Type 0
Within bs None = Unit {0}
Within bs (Some x) = (list_all is_literal_byte x.0 ≡ true) × (length x.0 ≤ length bs) × (length x.1 ≤ length bs)

front_within : (b : ℕ) (bs more : List ℕ) (o : Option (List ℕ × List ℕ)) → is_literal_byte b ≡ true → length bs < length more → Within bs o → Within more (in_front b o)
front_within b bs more None lit lt w = tt
front_within b bs more (Some x) lit lt w = (and_from (is_literal_byte b) (list_all is_literal_byte x.0) lit w.0, omega (arith, w.1), omega (arith, w.2))

abbrev LiteralOr : Option ℕ → Type 0
LiteralOr None = Unit {0}
LiteralOr (Some b) = is_literal_byte b ≡ true

front_if_within : (c : Option ℕ) (bs more : List ℕ) (o : Option (List ℕ × List ℕ)) → LiteralOr c → length bs < length more → Within bs o → Within more (in_front_if c o)
front_if_within None bs more o lit lt w = tt
front_if_within (Some b) bs more o lit lt w = front_within b bs more o lit lt w

escape_by : (c : ℕ) (t u : Bool) → nat_eq c 34 || nat_eq c 92 ≡ u → LiteralOr (cond t (Some 10) (cond u (Some c) None))
escape_by c true u e = refl
escape_by c false true e = grind (arith, nat_tests)
escape_by c false false e = tt

escape_literal : (c : ℕ) → LiteralOr (unescaped c)
escape_literal c = escape_by c (nat_eq c 110) (nat_eq c 34 || nat_eq c 92) refl

plain_literal : (b : ℕ) → is_control b ≡ false → is_literal_byte b ≡ true
plain_literal b h = grind (arith, nat_tests)

string_by : (b : ℕ) (more rest : List ℕ) (c : Option ℕ) (bs ds : List ℕ) (o p : Option (List ℕ × List ℕ)) (q r t : Bool) → is_control b ≡ t → LiteralOr c → length rest ≤ length more → length bs < length more → length ds < length more → Within bs o → Within ds p
    → Within more (cond q (Some ([], rest)) (cond r (in_front_if c o) (cond t None (in_front b p))))
string_by b more rest c bs ds o p true r t e lit le lt mt w v = (refl, omega arith, le)
string_by b more rest c bs ds o p false true t e lit le lt mt w v = front_if_within c bs more o lit lt w
string_by b more rest c bs ds o p false false true e lit le lt mt w v = tt
string_by b more rest c bs ds o p false false false e lit le lt mt w v = front_within b ds more p (plain_literal b e) mt v

end_by : (more : List ℕ) (q : Bool) → Within more (cond q (Some ([], [])) None)
end_by more true = (refl, omega arith, omega arith)
end_by more false = tt

string_within : (bs : List ℕ) → Within bs (string_from bs)
unfolding string_from
string_within [] = tt
string_within (b ∷ []) = end_by (b ∷ []) (nat_eq b 34)
string_within (b ∷ c ∷ cs) =
    string_by b (b ∷ c ∷ cs) (c ∷ cs) (unescaped c) cs (c ∷ cs) (string_from cs) (string_from (c ∷ cs)) (nat_eq b 34) (nat_eq b 92) (is_control b) refl (escape_literal c) (omega arith) (omega arith) (omega arith) (string_within cs) (string_within (c ∷ cs))

text_cut : (text rest bs : List ℕ) (b : Bool) → length bs ≤ 65536 → list_all is_literal_byte text ≡ true → length text ≤ length bs → length rest ≤ length bs → IsCut (text_or_bad rest (text_if b text)) bs
text_cut text rest bs true small lit le lf =
    let most : length text ≤ 65536 = omega arith in
    let fits : nat_le (length text) 65536 ≡ true = grind (arith, nat_tests) in
    record { kept = and_from (nat_le (length text) 65536) (list_all is_literal_byte text) fits lit; short = lf }
text_cut text rest bs false small lit le lf = record { kept = tt; short = omega arith }

string_cut_by : (bs : List ℕ) (o : Option (List ℕ × List ℕ)) → length bs ≤ 65536 → Within bs o → IsCut (string_token o) bs
string_cut_by bs None small w = record { kept = tt; short = omega arith }
string_cut_by bs (Some x) small w = text_cut x.0 x.1 bs (is_utf8 x.0) small w.0 w.1 w.2

-- ---- marks, and any token

cut_or : {t u : Token × List ℕ} {bs : List ℕ} (b : Bool) → IsCut t bs → IsCut u bs → IsCut (cond b t u) bs
cut_or true h g = h
cut_or false h g = g

plain_cut : (t : Token) (bs : List ℕ) → IsKept t → IsCut (t, bs) bs
plain_cut t bs h = record { kept = h; short = omega arith }

plus_cut : (bs : List ℕ) → IsCut (plus_at bs) bs
plus_cut [] = plain_cut token.Plus [] tt
plus_cut (c ∷ cs) = cut_or (nat_eq c 43) (record { kept = tt; short = omega arith }) (plain_cut token.Plus (c ∷ cs) tt)

mark_cut : (b : ℕ) (bs : List ℕ) → IsCut (mark_at b bs) bs
unfolding mark_at
mark_cut b bs = cut_or (nat_eq b 123) (plain_cut token.Open bs tt) (cut_or (nat_eq b 125) (plain_cut token.Close bs tt) (cut_or (nat_eq b 40) (plain_cut token.Left bs tt) (cut_or (nat_eq b 41) (plain_cut token.Right bs tt) (cut_or (nat_eq b 44) (plain_cut token.Comma bs tt) (cut_or (nat_eq b 59) (plain_cut token.Semicolon bs tt) (cut_or (nat_eq b 61) (plain_cut token.Equals bs tt) (cut_or (nat_eq b 60) (plain_cut token.Less bs tt) (cut_or (nat_eq b 43) (plus_cut bs) (cut_or (nat_eq b 45) (plain_cut token.Minus bs tt) (cut_or (nat_eq b 42) (plain_cut token.Star bs tt) (plain_cut token.Stray bs tt)))))))))))

longer : (t : Token × List ℕ) (b : ℕ) (bs : List ℕ) → IsCut t bs → IsCut t (b ∷ bs)
longer t b bs h = record { kept = h.kept; short = omega (arith, h.short) }

token_by : (b : ℕ) (bs : List ℕ) (d p q : Bool) → length (b ∷ bs) ≤ 65536 → is_ascii_digit b ≡ d → is_word_part b ≡ p
    → IsCut (cond d (number_in (run is_ascii_digit (b ∷ bs))) (cond p (word_in (run is_word_part (b ∷ bs))) (cond q (string_token (string_from bs)) (mark_at b bs)))) (b ∷ bs)
token_by b bs true p q small e f = number_cut (b ∷ bs)
token_by b bs false true q small e f = word_cut b bs e f
token_by b bs false false true small e f = longer (string_token (string_from bs)) b bs (string_cut_by bs (string_from bs) (omega arith) (string_within bs))
token_by b bs false false false small e f = longer (mark_at b bs) b bs (mark_cut b bs)

token_cut : (b : ℕ) (bs : List ℕ) → length (b ∷ bs) ≤ 65536 → IsCut (token_at b bs) (b ∷ bs)
unfolding token_at
token_cut b bs small = token_by b bs (is_ascii_digit b) (is_word_part b) (nat_eq b 34) small refl refl

-- ---- all tokens of a text

gap_by : (b : ℕ) (bs : List ℕ) (c t : Bool) → length (past_gap true bs) ≤ length bs → length (past_gap false bs) ≤ length bs → length (cond c (past_gap true bs) (cond t (past_gap false bs) (b ∷ bs))) ≤ length (b ∷ bs)
gap_by b bs true t h g = omega arith
gap_by b bs false true h g = omega arith
gap_by b bs false false h g = omega arith

gap_either : (w : Bool) (bs : List ℕ) → length (past_gap true bs) ≤ length bs → length (past_gap false bs) ≤ length bs → length (past_gap w bs) ≤ length bs
gap_either true bs h g = h
gap_either false bs h g = g

gap_short : (w : Bool) (bs : List ℕ) → length (past_gap w bs) ≤ length bs
unfolding past_gap
gap_short w [] = omega arith
gap_short true (b ∷ bs) = omega (arith, gap_short (not (nat_eq b 10)) bs)
gap_short false (b ∷ bs) = gap_by b bs (nat_eq b 35) (is_blank b) (gap_short true bs) (gap_short false bs)

abbrev CutOr : Option (Token × List ℕ) → List ℕ → Type 0
CutOr None bs = Unit {0}
CutOr (Some t) bs = IsCut t bs

next_cut : (bs : List ℕ) → length bs ≤ 65536 → CutOr (next_token bs) bs
next_cut [] small = tt
next_cut (b ∷ bs) small = token_cut b bs small

go_on : (b : Bool) (ps : List Placed) → AreKept (tokens ps) → AreKept (tokens (cond b [] ps))
go_on true ps h = tt
go_on false ps h = h

first_kept : (next : List ℕ → List Placed) (at : ℕ) (o : Option (Token × List ℕ)) (bs : List ℕ) → CutOr o bs → ((cs : List ℕ) → length cs ≤ length bs → AreKept (tokens (next cs))) → AreKept (tokens (placed_first next at o))
first_kept next at None bs cut more = tt
first_kept next at (Some t) bs cut more = (cut.kept, go_on (is_bad t.0) (next t.1) (more t.1 cut.short))

lexed_kept : (n total : ℕ) (bs : List ℕ) → length bs ≤ 65536 → AreKept (tokens (lexed n total bs))
unfolding lexed
lexed_kept zero total bs small = tt
lexed_kept (suc n) total bs small =
    let short = gap_short false bs in
    first_kept (lexed n total) _ (next_token (past_gap false bs)) (past_gap false bs) (next_cut (past_gap false bs) (omega (arith, short)))
    (λ cs le. lexed_kept n total cs (omega (arith, short, le)))

pub lex_kept : (text : List ℕ) → length text ≤ 65536 → AreKept (tokens (lex text))
lex_kept text small = lexed_kept (length text) (length text) text small

-- ---- how many there are

count_by : (n : ℕ) (b : Bool) (ps : List Placed) → length (tokens ps) ≤ n → length (tokens (cond b [] ps)) ≤ n
count_by n true ps h = omega arith
count_by n false ps h = h

first_count : (next : List ℕ → List Placed) (n at : ℕ) (o : Option (Token × List ℕ)) → ((cs : List ℕ) → length (tokens (next cs)) ≤ n) → length (tokens (placed_first next at o)) ≤ suc n
first_count next n at None more = omega arith
first_count next n at (Some t) more = omega (arith, count_by n (is_bad t.0) (next t.1) (more t.1))

lexed_count : (n total : ℕ) (bs : List ℕ) → length (tokens (lexed n total bs)) ≤ n
unfolding lexed
lexed_count zero total bs = omega arith
lexed_count (suc n) total bs = first_count (lexed n total) n _ (next_token (past_gap false bs)) (λ cs. lexed_count n total cs)

pub lex_count : (text : List ℕ) → length (tokens (lex text)) ≤ length text
lex_count text = lexed_count (length text) (length text) text
