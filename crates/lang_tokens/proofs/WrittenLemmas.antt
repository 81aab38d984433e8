-- What is written has the tokens that were written.
use Rattle.std.proofs.Common.{◌≡◌, ℕ, pos, negsuc, zero, suc, ◌-◌, ◌≤◌, ◌<◌, ◌^◌, Bool, true, false, not, cond, List, [], ◌∷◌, ◌++◌, length, get_or, Some, None, refl, ap, ◌∙◌, append_assoc, arith}
use Rattle.std.specs.Prelude.{nat_eq, nat_lt, nat_le, ◌&&◌, ◌||◌, codes}
use Rattle.std.specs.Char.{is_ascii_digit}
use Rattle.std.specs.Fmt.{decimal}
use Rattle.std.specs.List.{AllByRecursion, flat_map, list_all, prefix_len}
use Rattle.std.specs.Str.{is_utf8}
use Rattle.std.specs.Str.Parse.{digits_value}
use Rattle.std.proofs.lemmas.Bool.{and_parts, lt-ltb, ltb-true, not-true}
use Rattle.std.proofs.lemmas.Bool.Decides.{nat_tests}
use Rattle.std.proofs.lemmas.Fmt.{decimal_digit, decimal_nonempty, digits_decimal, digits_value-decimal, first_decimal}
use Rattle.std.proofs.lemmas.List.{drop_at, length-append, take_at}
use Rattle.lang_base.specs.Texts.{same_text}
use Rattle.lang_tree.specs.Forms.{begins_with_digit, is_literal_byte, is_reserved, is_word, is_word_byte}
use Rattle.lang_tree.specs.declared.method.Method.TheVariants as methods
use Rattle.lang_tokens.specs.declared.token.Token.{Token}
use Rattle.lang_tokens.specs.declared.token.Token.TheVariants as token
use Rattle.lang_tokens.specs.Lexing.{Placed, in_front, in_front_if, is_bad, is_blank, is_control, is_numeral, is_word_part, lex, lexed, mark_at, next_token, number, number_in, past_gap, placed_first, quoted, run, string_from, string_token, token_at, tokens, unescaped, word, word_in}
use Rattle.lang_tokens.specs.Spelling.{escaped, gap, is_held, IsSpelled, printed, spelling, written}
use Rattle.lang_tokens.proofs.DigitLemmas.{own}
use Rattle.lang_tokens.proofs.TextLemmas.{all_pass}

-- ---- runs

prefix_more : (p : ℕ → Bool) (b : ℕ) (w more : List ℕ) → p b ≡ true → prefix_len p more ≡ length w → prefix_len p (b ∷ more) ≡ suc (length w)
prefix_more p b w more e h = rw e (omega (arith, h))

prefix_at : (p : ℕ → Bool) (w : List ℕ) (s : ℕ) (rest : List ℕ) → list_all p w ≡ true → p s ≡ false → prefix_len p (w ++ (s ∷ rest)) ≡ length w
prefix_at p [] s rest all ends = rw ends refl
prefix_at p (b ∷ w) s rest all ends = let k = all_pass p b w all in prefix_more p b w (w ++ (s ∷ rest)) k.0 (prefix_at p w s rest k.1 ends)

run_at : (p : ℕ → Bool) (w : List ℕ) (s : ℕ) (rest : List ℕ) → list_all p w ≡ true → p s ≡ false → run p (w ++ (s ∷ rest)) ≡ (w, s ∷ rest)
unfolding run
run_at p w s rest all ends =
    rw (prefix_at p w s rest all ends, take_at w (s ∷ rest) (length w) refl, drop_at w (s ∷ rest) (length w) refl) refl

-- a token is found again where this byte stands behind its spelling
record IsFound (t : Token) (s : ℕ) (rest : List ℕ) : Type 0 where
  head : ℕ
  tail : List ℕ
  is : spelling t ≡ head ∷ tail
  begins : is_blank head ≡ false
  no_comment : nat_eq head 35 ≡ false
  gives : token_at head (tail ++ (s ∷ rest)) ≡ (t, s ∷ rest)
  good : is_bad t ≡ false

token_digit : (b : ℕ) (bs : List ℕ) → is_ascii_digit b ≡ true → token_at b bs ≡ number_in (run is_ascii_digit (b ∷ bs))
unfolding token_at
token_digit b bs e = rw e refl

token_word : (b : ℕ) (bs : List ℕ) → is_ascii_digit b ≡ false → is_word_part b ≡ true → token_at b bs ≡ word_in (run is_word_part (b ∷ bs))
unfolding token_at
token_word b bs e f = rw (e, f) refl

token_quote : (bs : List ℕ) → token_at 34 bs ≡ string_token (string_from bs)
unfolding token_at is_word_part
token_quote bs = refl

-- ---- words

word_no_gap : (b : ℕ) → is_word_part b ≡ true → (is_blank b ≡ false) × (nat_eq b 35 ≡ false)
unfolding is_word_part
word_no_gap b h = (grind (arith, nat_tests), grind (arith, nat_tests))

record IsName (w : List ℕ) : Type 0 where
  short : nat_lt 32 (length w) ≡ false
  parts : list_all is_word_byte w ≡ true
  begins : begins_with_digit w ≡ false
  free : is_reserved w ≡ false
  some : 0 < length w

name_of : (w : List ℕ) → is_word w ≡ true → IsName w
name_of w h =
    let a = and_parts (not (nat_eq (length w) 0) && nat_le (length w) 32 && list_all is_word_byte w && not (begins_with_digit w)) (not (is_reserved w)) h in
    let b = and_parts (not (nat_eq (length w) 0) && nat_le (length w) 32 && list_all is_word_byte w) (not (begins_with_digit w)) a.0 in
    let c = and_parts (not (nat_eq (length w) 0) && nat_le (length w) 32) (list_all is_word_byte w) b.0 in
    let d = and_parts (not (nat_eq (length w) 0)) (nat_le (length w) 32) c.0 in
    let e : nat_eq (length w) 0 ≡ false = not-true (nat_eq (length w) 0) d.0 in
    let le : nat_le (length w) 32 ≡ true = d.1 in
    record {
      short = grind (arith, nat_tests);
      parts = c.1;
      begins = not-true (begins_with_digit w) b.1;
      free = not-true (is_reserved w) a.1;
      some = grind (arith, nat_tests);
    }

left_free : (a b : Bool) → a || b ≡ false → (a ≡ false) × (b ≡ false)
left_free true b h = absurd cc
left_free false b h = (refl, h)

free_word : (w : List ℕ) → is_reserved w ≡ false → quoted w ≡ None
unfolding quoted
free_word w h0 =
    let h24 = left_free (same_text w (codes "route") || same_text w (codes "let") || same_text w (codes "get") || same_text w (codes "put") || same_text w (codes "drop") || same_text w (codes "each") || same_text w (codes "in") || same_text w (codes "if") || same_text w (codes "else") || same_text w (codes "call") || same_text w (codes "now") || same_text w (codes "random") || same_text w (codes "reply") || same_text w (codes "nothing") || same_text w (codes "body") || same_text w (codes "who") || same_text w (codes "path") || same_text w (codes "part") || same_text w (codes "number") || same_text w (codes "text") || same_text w (codes "GET") || same_text w (codes "PUT") || same_text w (codes "POST")) (same_text w (codes "DELETE")) h0 in
    let h23 = left_free (same_text w (codes "route") || same_text w (codes "let") || same_text w (codes "get") || same_text w (codes "put") || same_text w (codes "drop") || same_text w (codes "each") || same_text w (codes "in") || same_text w (codes "if") || same_text w (codes "else") || same_text w (codes "call") || same_text w (codes "now") || same_text w (codes "random") || same_text w (codes "reply") || same_text w (codes "nothing") || same_text w (codes "body") || same_text w (codes "who") || same_text w (codes "path") || same_text w (codes "part") || same_text w (codes "number") || same_text w (codes "text") || same_text w (codes "GET") || same_text w (codes "PUT")) (same_text w (codes "POST")) h24.0 in
    let h22 = left_free (same_text w (codes "route") || same_text w (codes "let") || same_text w (codes "get") || same_text w (codes "put") || same_text w (codes "drop") || same_text w (codes "each") || same_text w (codes "in") || same_text w (codes "if") || same_text w (codes "else") || same_text w (codes "call") || same_text w (codes "now") || same_text w (codes "random") || same_text w (codes "reply") || same_text w (codes "nothing") || same_text w (codes "body") || same_text w (codes "who") || same_text w (codes "path") || same_text w (codes "part") || same_text w (codes "number") || same_text w (codes "text") || same_text w (codes "GET")) (same_text w (codes "PUT")) h23.0 in
    let h21 = left_free (same_text w (codes "route") || same_text w (codes "let") || same_text w (codes "get") || same_text w (codes "put") || same_text w (codes "drop") || same_text w (codes "each") || same_text w (codes "in") || same_text w (codes "if") || same_text w (codes "else") || same_text w (codes "call") || same_text w (codes "now") || same_text w (codes "random") || same_text w (codes "reply") || same_text w (codes "nothing") || same_text w (codes "body") || same_text w (codes "who") || same_text w (codes "path") || same_text w (codes "part") || same_text w (codes "number") || same_text w (codes "text")) (same_text w (codes "GET")) h22.0 in
    let h20 = left_free (same_text w (codes "route") || same_text w (codes "let") || same_text w (codes "get") || same_text w (codes "put") || same_text w (codes "drop") || same_text w (codes "each") || same_text w (codes "in") || same_text w (codes "if") || same_text w (codes "else") || same_text w (codes "call") || same_text w (codes "now") || same_text w (codes "random") || same_text w (codes "reply") || same_text w (codes "nothing") || same_text w (codes "body") || same_text w (codes "who") || same_text w (codes "path") || same_text w (codes "part") || same_text w (codes "number")) (same_text w (codes "text")) h21.0 in
    let h19 = left_free (same_text w (codes "route") || same_text w (codes "let") || same_text w (codes "get") || same_text w (codes "put") || same_text w (codes "drop") || same_text w (codes "each") || same_text w (codes "in") || same_text w (codes "if") || same_text w (codes "else") || same_text w (codes "call") || same_text w (codes "now") || same_text w (codes "random") || same_text w (codes "reply") || same_text w (codes "nothing") || same_text w (codes "body") || same_text w (codes "who") || same_text w (codes "path") || same_text w (codes "part")) (same_text w (codes "number")) h20.0 in
    let h18 = left_free (same_text w (codes "route") || same_text w (codes "let") || same_text w (codes "get") || same_text w (codes "put") || same_text w (codes "drop") || same_text w (codes "each") || same_text w (codes "in") || same_text w (codes "if") || same_text w (codes "else") || same_text w (codes "call") || same_text w (codes "now") || same_text w (codes "random") || same_text w (codes "reply") || same_text w (codes "nothing") || same_text w (codes "body") || same_text w (codes "who") || same_text w (codes "path")) (same_text w (codes "part")) h19.0 in
    let h17 = left_free (same_text w (codes "route") || same_text w (codes "let") || same_text w (codes "get") || same_text w (codes "put") || same_text w (codes "drop") || same_text w (codes "each") || same_text w (codes "in") || same_text w (codes "if") || same_text w (codes "else") || same_text w (codes "call") || same_text w (codes "now") || same_text w (codes "random") || same_text w (codes "reply") || same_text w (codes "nothing") || same_text w (codes "body") || same_text w (codes "who")) (same_text w (codes "path")) h18.0 in
    let h16 = left_free (same_text w (codes "route") || same_text w (codes "let") || same_text w (codes "get") || same_text w (codes "put") || same_text w (codes "drop") || same_text w (codes "each") || same_text w (codes "in") || same_text w (codes "if") || same_text w (codes "else") || same_text w (codes "call") || same_text w (codes "now") || same_text w (codes "random") || same_text w (codes "reply") || same_text w (codes "nothing") || same_text w (codes "body")) (same_text w (codes "who")) h17.0 in
    let h15 = left_free (same_text w (codes "route") || same_text w (codes "let") || same_text w (codes "get") || same_text w (codes "put") || same_text w (codes "drop") || same_text w (codes "each") || same_text w (codes "in") || same_text w (codes "if") || same_text w (codes "else") || same_text w (codes "call") || same_text w (codes "now") || same_text w (codes "random") || same_text w (codes "reply") || same_text w (codes "nothing")) (same_text w (codes "body")) h16.0 in
    let h14 = left_free (same_text w (codes "route") || same_text w (codes "let") || same_text w (codes "get") || same_text w (codes "put") || same_text w (codes "drop") || same_text w (codes "each") || same_text w (codes "in") || same_text w (codes "if") || same_text w (codes "else") || same_text w (codes "call") || same_text w (codes "now") || same_text w (codes "random") || same_text w (codes "reply")) (same_text w (codes "nothing")) h15.0 in
    let h13 = left_free (same_text w (codes "route") || same_text w (codes "let") || same_text w (codes "get") || same_text w (codes "put") || same_text w (codes "drop") || same_text w (codes "each") || same_text w (codes "in") || same_text w (codes "if") || same_text w (codes "else") || same_text w (codes "call") || same_text w (codes "now") || same_text w (codes "random")) (same_text w (codes "reply")) h14.0 in
    let h12 = left_free (same_text w (codes "route") || same_text w (codes "let") || same_text w (codes "get") || same_text w (codes "put") || same_text w (codes "drop") || same_text w (codes "each") || same_text w (codes "in") || same_text w (codes "if") || same_text w (codes "else") || same_text w (codes "call") || same_text w (codes "now")) (same_text w (codes "random")) h13.0 in
    let h11 = left_free (same_text w (codes "route") || same_text w (codes "let") || same_text w (codes "get") || same_text w (codes "put") || same_text w (codes "drop") || same_text w (codes "each") || same_text w (codes "in") || same_text w (codes "if") || same_text w (codes "else") || same_text w (codes "call")) (same_text w (codes "now")) h12.0 in
    let h10 = left_free (same_text w (codes "route") || same_text w (codes "let") || same_text w (codes "get") || same_text w (codes "put") || same_text w (codes "drop") || same_text w (codes "each") || same_text w (codes "in") || same_text w (codes "if") || same_text w (codes "else")) (same_text w (codes "call")) h11.0 in
    let h9 = left_free (same_text w (codes "route") || same_text w (codes "let") || same_text w (codes "get") || same_text w (codes "put") || same_text w (codes "drop") || same_text w (codes "each") || same_text w (codes "in") || same_text w (codes "if")) (same_text w (codes "else")) h10.0 in
    let h8 = left_free (same_text w (codes "route") || same_text w (codes "let") || same_text w (codes "get") || same_text w (codes "put") || same_text w (codes "drop") || same_text w (codes "each") || same_text w (codes "in")) (same_text w (codes "if")) h9.0 in
    let h7 = left_free (same_text w (codes "route") || same_text w (codes "let") || same_text w (codes "get") || same_text w (codes "put") || same_text w (codes "drop") || same_text w (codes "each")) (same_text w (codes "in")) h8.0 in
    let h6 = left_free (same_text w (codes "route") || same_text w (codes "let") || same_text w (codes "get") || same_text w (codes "put") || same_text w (codes "drop")) (same_text w (codes "each")) h7.0 in
    let h5 = left_free (same_text w (codes "route") || same_text w (codes "let") || same_text w (codes "get") || same_text w (codes "put")) (same_text w (codes "drop")) h6.0 in
    let h4 = left_free (same_text w (codes "route") || same_text w (codes "let") || same_text w (codes "get")) (same_text w (codes "put")) h5.0 in
    let h3 = left_free (same_text w (codes "route") || same_text w (codes "let")) (same_text w (codes "get")) h4.0 in
    let h2 = left_free (same_text w (codes "route")) (same_text w (codes "let")) h3.0 in
    rw (h2.0, h2.1, h3.1, h4.1, h5.1, h6.1, h7.1, h8.1, h9.1, h10.1, h11.1, h12.1, h13.1, h14.1, h15.1, h16.1, h17.1, h18.1, h19.1, h20.1, h21.1, h22.1, h23.1, h24.1) refl

name_token : (w : List ℕ) → quoted w ≡ None → nat_lt 32 (length w) ≡ false → word w ≡ token.Word w
name_token w free short = rw (free, short) refl

parts_of : (w : List ℕ) → list_all is_word_byte w ≡ true → list_all is_word_part w ≡ true
unfolding is_word_part
parts_of w h = h

space_ends : is_word_part 32 ≡ false
unfolding is_word_part
space_ends = refl

found_name : (w : List ℕ) (rest : List ℕ) → IsName w → IsFound (token.Word w) 32 rest
found_name [] rest n = absurd (omega (arith, n.some))
found_name (b ∷ w) rest n =
    let parts = parts_of (b ∷ w) n.parts in
    let first : is_word_part b ≡ true = (all_pass is_word_part b w parts).0 in
    let no_digit : is_ascii_digit b ≡ false = n.begins in
    let r = run_at is_word_part (b ∷ w) 32 rest parts space_ends in
    record {
      head = b;
      tail = w;
      is = refl;
      begins = (word_no_gap b first).0;
      no_comment = (word_no_gap b first).1;
      gives = token_word b (w ++ (32 ∷ rest)) no_digit first ∙ ap word_in r ∙ ap (λ (t : Token). (t, 32 ∷ rest)) (name_token (b ∷ w) (free_word (b ∷ w) n.free) n.short);
      good = refl;
    }

-- ---- numbers

digit_no_gap : (b : ℕ) → is_ascii_digit b ≡ true → (is_blank b ≡ false) × (nat_eq b 35 ≡ false)
digit_no_gap b h = (grind (arith, nat_tests), grind (arith, nat_tests))

number_token : (ds : List ℕ) (n : ℕ) → is_numeral ds ≡ true → digits_value 10 ds ≡ n → n < 2 ^ 63 → number ds ≡ token.Integer (pos n)
number_token ds n well value small =
    let s : nat_lt (digits_value 10 ds) (2 ^ 63) ≡ true = rw value (lt-ltb n (2 ^ 63) small) in
    rw (well, s) (ap (λ (k : ℕ). token.Integer (pos k)) value)

found_digits : (ds : List ℕ) (n : ℕ) (rest : List ℕ) → decimal n ≡ ds → list_all is_ascii_digit ds ≡ true → is_numeral ds ≡ true → digits_value 10 ds ≡ n → n < 2 ^ 63 → IsFound (token.Integer (pos n)) 32 rest
found_digits [] n rest is all well value small = absurd (let e = well in cc)
found_digits (b ∷ ds) n rest is all well value small =
    let first : is_ascii_digit b ≡ true = (all_pass is_ascii_digit b ds all).0 in
    let r = run_at is_ascii_digit (b ∷ ds) 32 rest all refl in
    record {
      head = b;
      tail = ds;
      is = is;
      begins = (digit_no_gap b first).0;
      no_comment = (digit_no_gap b first).1;
      gives = token_digit b (ds ++ (32 ∷ rest)) first ∙ ap number_in r ∙ ap (λ (t : Token). (t, 32 ∷ rest)) (number_token (b ∷ ds) n well value small);
      good = refl;
    }

well_begun : (ds : List ℕ) → 0 < length ds → 48 < get_or ds 0 0 → is_numeral ds ≡ true
well_begun [] some first = absurd (omega arith)
well_begun (d ∷ []) some first = refl
well_begun (d ∷ e ∷ ds) some first = let h : nat_eq d 48 ≡ false = grind (arith, nat_tests) in rw h refl

well_decimal : (n : ℕ) → n < 2 ^ 64 → is_numeral (decimal n) ≡ true
well_decimal zero h = ap is_numeral (decimal_digit 0 (omega arith))
well_decimal (suc n) h = well_begun (decimal (suc n)) (decimal_nonempty (suc n) h) (first_decimal (suc n) (omega arith) h)

found_number : (n : ℕ) (rest : List ℕ) → n < 2 ^ 63 → IsFound (token.Integer (pos n)) 32 rest
found_number n rest small =
    let h : n < 2 ^ 64 = omega arith in
    found_digits (decimal n) n rest refl (digits_decimal own n h) (well_decimal n h) (digits_value-decimal own n h) small

-- ---- strings

string_step : (b : ℕ) (bs : List ℕ) → 0 < length bs → nat_eq b 34 ≡ false → nat_eq b 92 ≡ false → is_control b ≡ false → string_from (b ∷ bs) ≡ in_front b (string_from bs)
unfolding string_from
string_step b [] some quote back control = absurd (omega arith)
string_step b (c ∷ cs) some quote back control = rw (quote, back, control) refl

string_escape : (c : ℕ) (cs : List ℕ) → string_from (92 ∷ c ∷ cs) ≡ in_front_if (unescaped c) (string_from cs)
unfolding string_from
string_escape c cs = refl

string_end : (bs : List ℕ) → string_from (34 ∷ bs) ≡ Some ([], bs)
unfolding string_from
string_end [] = refl
string_end (c ∷ cs) = refl

unfoldable ended : List ℕ → List ℕ → List ℕ
ended text rest = flat_map escaped text ++ (34 ∷ rest)

string_end_of : (rest : List ℕ) → string_from (ended [] rest) ≡ Some ([], rest)
unfolding ended
string_end_of rest = string_end rest

ended_some : (text rest : List ℕ) → 0 < length (ended text rest)
unfolding ended
ended_some text rest = omega (arith, length-append (flat_map escaped text) (34 ∷ rest))

ended_more : (b : ℕ) (text rest : List ℕ) → ended (b ∷ text) rest ≡ escaped b ++ ended text rest
unfolding ended
ended_more b text rest = append_assoc (escaped b) (flat_map escaped text) (34 ∷ rest)

text_byte : (b : ℕ) → is_literal_byte b ≡ true → nat_eq b 10 ≡ false → is_control b ≡ false
text_byte b h e = grind (arith, nat_tests)

one_more : (b : ℕ) (text rest : List ℕ) → is_literal_byte b ≡ true → string_from (ended text rest) ≡ Some (text, rest) → (q r n : Bool) → nat_eq b 34 ≡ q → nat_eq b 92 ≡ r → nat_eq b 10 ≡ n
    → string_from (escaped b ++ ended text rest) ≡ Some (b ∷ text, rest)
one_more b text rest good h true r n quote back line =
    let e : b ≡ 34 = grind (arith, nat_tests) in rw e (string_escape 34 (ended text rest) ∙ rw h refl)
one_more b text rest good h false true n quote back line =
    let e : b ≡ 92 = grind (arith, nat_tests) in rw e (string_escape 92 (ended text rest) ∙ rw h refl)
one_more b text rest good h false false true quote back line =
    let e : b ≡ 10 = grind (arith, nat_tests) in rw e (string_escape 110 (ended text rest) ∙ rw h refl)
one_more b text rest good h false false false quote back line =
    rw (quote, back, line) (string_step b (ended text rest) (ended_some text rest) quote back (text_byte b good line) ∙ rw h refl)

string_again : (text rest : List ℕ) → list_all is_literal_byte text ≡ true → string_from (ended text rest) ≡ Some (text, rest)
string_again [] rest h = string_end_of rest
string_again (b ∷ text) rest h =
    let k = all_pass is_literal_byte b text h in
    ap string_from (ended_more b text rest)
    ∙ one_more b text rest k.0 (string_again text rest k.1) (nat_eq b 34) (nat_eq b 92) (nat_eq b 10) refl refl refl

text_token : (text rest : List ℕ) → is_utf8 text ≡ true → string_token (Some (text, rest)) ≡ (token.Str text, rest)
text_token text rest u = rw u refl

found_text : (text rest : List ℕ) → list_all is_literal_byte text ≡ true → is_utf8 text ≡ true → IsFound (token.Str text) 32 rest
unfolding ended
found_text text rest h u = record {
  head = 34;
  tail = flat_map escaped text ++ (34 ∷ []);
  is = refl;
  begins = refl;
  no_comment = refl;
  gives = token_quote ((flat_map escaped text ++ (34 ∷ [])) ++ (32 ∷ rest)) ∙ ap (λ (bs : List ℕ). string_token (string_from bs)) (append_assoc (flat_map escaped text) (34 ∷ []) (32 ∷ rest)) ∙ ap string_token (string_again text (32 ∷ rest) h) ∙ text_token text (32 ∷ rest) u;
  good = refl;
}

-- ---- all tokens

found : (t : Token) (rest : List ℕ) → IsSpelled t → is_held t ≡ true → IsFound t (gap t) rest
unfolding token_at mark_at quoted run is_word_part
found (token.Integer (pos n)) rest h u = found_number n rest (ltb-true _ _ u)
found (token.Integer (negsuc n)) rest h u = absurd (let k = h in cc)
found (token.Str text) rest h u = found_text text rest (and_parts (nat_le (length text) 65536) (list_all is_literal_byte text) h).1 u
found (token.Word w) rest h u = found_name w rest (name_of w h)
found token.BadNumber rest h u = absurd h
found token.BadString rest h u = absurd h
found token.Stray rest h u = absurd h
found token.Route rest h u = record { head = 114; tail = 111 ∷ 117 ∷ 116 ∷ 101 ∷ []; is = refl; begins = refl; no_comment = refl; gives = refl; good = refl }
found token.Let rest h u = record { head = 108; tail = 101 ∷ 116 ∷ []; is = refl; begins = refl; no_comment = refl; gives = refl; good = refl }
found token.Get rest h u = record { head = 103; tail = 101 ∷ 116 ∷ []; is = refl; begins = refl; no_comment = refl; gives = refl; good = refl }
found token.Put rest h u = record { head = 112; tail = 117 ∷ 116 ∷ []; is = refl; begins = refl; no_comment = refl; gives = refl; good = refl }
found token.Drop rest h u = record { head = 100; tail = 114 ∷ 111 ∷ 112 ∷ []; is = refl; begins = refl; no_comment = refl; gives = refl; good = refl }
found token.Each rest h u = record { head = 101; tail = 97 ∷ 99 ∷ 104 ∷ []; is = refl; begins = refl; no_comment = refl; gives = refl; good = refl }
found token.In rest h u = record { head = 105; tail = 110 ∷ []; is = refl; begins = refl; no_comment = refl; gives = refl; good = refl }
found token.If rest h u = record { head = 105; tail = 102 ∷ []; is = refl; begins = refl; no_comment = refl; gives = refl; good = refl }
found token.Else rest h u = record { head = 101; tail = 108 ∷ 115 ∷ 101 ∷ []; is = refl; begins = refl; no_comment = refl; gives = refl; good = refl }
found token.Call rest h u = record { head = 99; tail = 97 ∷ 108 ∷ 108 ∷ []; is = refl; begins = refl; no_comment = refl; gives = refl; good = refl }
found token.Now rest h u = record { head = 110; tail = 111 ∷ 119 ∷ []; is = refl; begins = refl; no_comment = refl; gives = refl; good = refl }
found token.Random rest h u = record { head = 114; tail = 97 ∷ 110 ∷ 100 ∷ 111 ∷ 109 ∷ []; is = refl; begins = refl; no_comment = refl; gives = refl; good = refl }
found token.Reply rest h u = record { head = 114; tail = 101 ∷ 112 ∷ 108 ∷ 121 ∷ []; is = refl; begins = refl; no_comment = refl; gives = refl; good = refl }
found token.Nothing rest h u = record { head = 110; tail = 111 ∷ 116 ∷ 104 ∷ 105 ∷ 110 ∷ 103 ∷ []; is = refl; begins = refl; no_comment = refl; gives = refl; good = refl }
found token.Body rest h u = record { head = 98; tail = 111 ∷ 100 ∷ 121 ∷ []; is = refl; begins = refl; no_comment = refl; gives = refl; good = refl }
found token.Who rest h u = record { head = 119; tail = 104 ∷ 111 ∷ []; is = refl; begins = refl; no_comment = refl; gives = refl; good = refl }
found token.Path rest h u = record { head = 112; tail = 97 ∷ 116 ∷ 104 ∷ []; is = refl; begins = refl; no_comment = refl; gives = refl; good = refl }
found token.Part rest h u = record { head = 112; tail = 97 ∷ 114 ∷ 116 ∷ []; is = refl; begins = refl; no_comment = refl; gives = refl; good = refl }
found token.Number rest h u = record { head = 110; tail = 117 ∷ 109 ∷ 98 ∷ 101 ∷ 114 ∷ []; is = refl; begins = refl; no_comment = refl; gives = refl; good = refl }
found token.AsText rest h u = record { head = 116; tail = 101 ∷ 120 ∷ 116 ∷ []; is = refl; begins = refl; no_comment = refl; gives = refl; good = refl }
found (token.Method methods.Get) rest h u = record { head = 71; tail = 69 ∷ 84 ∷ []; is = refl; begins = refl; no_comment = refl; gives = refl; good = refl }
found (token.Method methods.Put) rest h u = record { head = 80; tail = 85 ∷ 84 ∷ []; is = refl; begins = refl; no_comment = refl; gives = refl; good = refl }
found (token.Method methods.Post) rest h u = record { head = 80; tail = 79 ∷ 83 ∷ 84 ∷ []; is = refl; begins = refl; no_comment = refl; gives = refl; good = refl }
found (token.Method methods.Delete) rest h u = record { head = 68; tail = 69 ∷ 76 ∷ 69 ∷ 84 ∷ 69 ∷ []; is = refl; begins = refl; no_comment = refl; gives = refl; good = refl }
found token.Open rest h u = record { head = 123; tail = []; is = refl; begins = refl; no_comment = refl; gives = refl; good = refl }
found token.Close rest h u = record { head = 125; tail = []; is = refl; begins = refl; no_comment = refl; gives = refl; good = refl }
found token.Left rest h u = record { head = 40; tail = []; is = refl; begins = refl; no_comment = refl; gives = refl; good = refl }
found token.Right rest h u = record { head = 41; tail = []; is = refl; begins = refl; no_comment = refl; gives = refl; good = refl }
found token.Comma rest h u = record { head = 44; tail = []; is = refl; begins = refl; no_comment = refl; gives = refl; good = refl }
found token.Semicolon rest h u = record { head = 59; tail = []; is = refl; begins = refl; no_comment = refl; gives = refl; good = refl }
found token.Equals rest h u = record { head = 61; tail = []; is = refl; begins = refl; no_comment = refl; gives = refl; good = refl }
found token.Less rest h u = record { head = 60; tail = []; is = refl; begins = refl; no_comment = refl; gives = refl; good = refl }
found token.Plus rest h u = record { head = 43; tail = []; is = refl; begins = refl; no_comment = refl; gives = refl; good = refl }
found token.Join rest h u = record { head = 43; tail = 43 ∷ []; is = refl; begins = refl; no_comment = refl; gives = refl; good = refl }
found token.Minus rest h u = record { head = 45; tail = []; is = refl; begins = refl; no_comment = refl; gives = refl; good = refl }
found token.Star rest h u = record { head = 42; tail = []; is = refl; begins = refl; no_comment = refl; gives = refl; good = refl }

gap_skipped : (b : ℕ) (bs : List ℕ) → is_blank b ≡ false → nat_eq b 35 ≡ false → past_gap false (b ∷ bs) ≡ b ∷ bs
unfolding past_gap
gap_skipped b bs blank comment = rw (comment, blank) refl

gap_by : (t : Bool) (bs : List ℕ) → past_gap false (cond t 10 32 ∷ bs) ≡ past_gap false bs
unfolding past_gap
gap_by true bs = refl
gap_by false bs = refl

after_gap : (t : Token) (n total : ℕ) (bs : List ℕ) → lexed n total (gap t ∷ bs) ≡ lexed n total bs
unfolding lexed
after_gap t zero total bs = refl
after_gap t (suc n) total bs = ap (λ (s : List ℕ). placed_first (lexed n total) (total - length s) (next_token s)) (gap_by _ bs)

found_first : (t : Token) (n total : ℕ) (rest : List ℕ) → IsFound t (gap t) rest → tokens (lexed (suc n) total (written t ++ rest)) ≡ t ∷ tokens (lexed n total rest)
unfolding lexed
found_first t n total rest f =
    let text : written t ++ rest ≡ f.head ∷ (f.tail ++ (gap t ∷ rest)) = append_assoc (spelling t) (gap t ∷ []) rest ∙ ap (λ (s : List ℕ). s ++ (gap t ∷ rest)) f.is in
    let skips = gap_skipped f.head (f.tail ++ (gap t ∷ rest)) f.begins f.no_comment in
    ap (λ (s : List ℕ). tokens (placed_first (lexed n total) (total - length (past_gap false s)) (next_token (past_gap false s)))) text
    ∙ ap (λ (s : List ℕ). tokens (placed_first (lexed n total) (total - length s) (next_token s))) skips
    ∙ ap (λ (x : Token × List ℕ). tokens (placed_first (lexed n total) (total - length (f.head ∷ (f.tail ++ (gap t ∷ rest)))) (Some x))) f.gives
    ∙ ap (λ (b : Bool). t ∷ tokens (cond b [] (lexed n total (gap t ∷ rest)))) f.good
    ∙ ap (λ (ps : List Placed). t ∷ tokens ps) (after_gap t n total rest)

printed_nothing : (n total : ℕ) → tokens (lexed n total []) ≡ []
unfolding lexed past_gap
printed_nothing zero total = refl
printed_nothing (suc n) total = refl

lexed_again : (ts : List Token) (n total : ℕ) → AllByRecursion IsSpelled ts → list_all is_held ts ≡ true → length ts ≤ n → tokens (lexed n total (printed ts)) ≡ ts
lexed_again [] n total h u le = printed_nothing n total
lexed_again (t ∷ ts) zero total h u le = absurd (omega arith)
lexed_again (t ∷ ts) (suc n) total h u le =
    let k = and_parts (is_held t) (list_all is_held ts) u in
    found_first t n total (printed ts) (found t (printed ts) h.0 k.0) ∙ ap (λ (us : List Token). t ∷ us) (lexed_again ts n total h.1 k.1 (omega arith))

length_printed : (ts : List Token) → length ts ≤ length (printed ts)
length_printed [] = omega arith
length_printed (t ∷ ts) = omega (arith, length_printed ts, length-append (written t) (printed ts), length-append (spelling t) (gap t ∷ []))

-- the tokens of what is written are those that were written
pub lex_again : (ts : List Token) → AllByRecursion IsSpelled ts → list_all is_held ts ≡ true → tokens (lex (printed ts)) ≡ ts
lex_again ts h u = lexed_again ts (length (printed ts)) (length (printed ts)) h u (length_printed ts)
