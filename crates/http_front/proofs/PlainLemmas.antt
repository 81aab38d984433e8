-- Values that a line gives back as they are.
use Rattle.std.proofs.Common.{◌≡◌, ℕ, ◌<◌, ◌≤◌, ◌^◌, true, false, List, [], ◌∷◌, ◌++◌, length, reverse, codes, decimal, refl, sym, ap, ◌∙◌, arith, append_assoc}
use Rattle.std.specs.List.{list_all}
use Rattle.std.proofs.lemmas.Bool.Decides.{nat_tests}
use Rattle.std.proofs.lemmas.Fmt.{digits_decimal}
use Rattle.std.proofs.lemmas.List.{length-reverse, reverse-append, reverse-reverse}
use Rattle.std.proofs.lemmas.List.Folds.{list_all-append}
use Rattle.std.proofs.lemmas.Slice.Eq.{bytes_eq-Decides}
use Rattle.lang_base.specs.Characters.{is_digit, is_visible}
use Rattle.lang_base.specs.Texts.{same_text}
use Rattle.httparse.specs.Grammar.{is_ows, is_token_byte, is_value_byte, skip_ows, trim_ows}
use Rattle.http_front.specs.Writing.{last_lines}
use Rattle.http_front.specs.ReadBack.{is_plain}
use Rattle.http_front.proofs.BodyLemmas.{own}
use Rattle.std.proofs.lemmas.Bool.{and_from, and_parts}
use Rattle.http_front.proofs.PassLemmas.{turned, weaker}
use Rattle.http_front.proofs.LineLemmas.{is_sound}

-- ---- white space at the ends

trimmed : (value : List ℕ) → skip_ows value ≡ value → skip_ows (reverse value) ≡ reverse value → trim_ows value ≡ value
unfolding trim_ows
trimmed value front back = ap (λ (v : List ℕ). reverse (skip_ows (reverse v))) front ∙ ap reverse back ∙ reverse-reverse value

pub plain_by : (value : List ℕ) → list_all is_value_byte value ≡ true → skip_ows value ≡ value → skip_ows (reverse value) ≡ reverse value → is_plain value ≡ true
plain_by value bytes front back =
    and_from (list_all is_value_byte value) (same_text (trim_ows value) value) bytes ((bytes_eq-Decides (trim_ows value) value).1 (trimmed value front back))

visible_stays : (b : ℕ) → is_visible b ≡ true → is_ows b ≡ false
visible_stays b is = grind (arith, nat_tests)

-- nothing is skipped before a visible character
pub skips_none : (b : ℕ) (bytes : List ℕ) → is_visible b ≡ true → skip_ows (b ∷ bytes) ≡ b ∷ bytes
skips_none b bytes is = rw (visible_stays b is) refl

pub visible_value : (b : ℕ) → is_visible b ≡ true → is_value_byte b ≡ true
visible_value b is = grind (arith, nat_tests)

-- ---- visible characters

unskipped : (bytes : List ℕ) → list_all is_visible bytes ≡ true → skip_ows bytes ≡ bytes
unskipped [] all = refl
unskipped (b ∷ bytes) all = skips_none b bytes (and_parts (is_visible b) (list_all is_visible bytes) all).0

pub visible_plain : (text : List ℕ) → list_all is_visible text ≡ true → is_plain text ≡ true
visible_plain text all =
    plain_by text (weaker is_visible is_value_byte visible_value text all) (unskipped text all) (unskipped (reverse text) (turned is_visible text all))

begins_visible : (front rest : List ℕ) → list_all is_visible front ≡ true → 0 < length front → skip_ows (front ++ rest) ≡ front ++ rest
begins_visible [] rest all some = absurd (omega (arith, some))
begins_visible (b ∷ front) rest all some = skips_none b (front ++ rest) (and_parts (is_visible b) (list_all is_visible front) all).0

-- two such texts, neither empty, with a space between them
pub spaced_plain : (front back : List ℕ) → list_all is_visible front ≡ true → 0 < length front → list_all is_visible back ≡ true → 0 < length back
    → is_plain (front ++ 32 ∷ back) ≡ true
spaced_plain front back first some second more =
    let values : list_all is_value_byte (front ++ 32 ∷ back) ≡ true =
    list_all-append is_value_byte front (32 ∷ back)
    ∙ and_from (list_all is_value_byte front) (list_all is_value_byte back)
    (weaker is_visible is_value_byte visible_value front first) (weaker is_visible is_value_byte visible_value back second) in
    let other : reverse (front ++ 32 ∷ back) ≡ reverse back ++ reverse (front ++ 32 ∷ []) =
    ap reverse (sym (append_assoc front (32 ∷ []) back)) ∙ reverse-append (front ++ 32 ∷ []) back in
    let ends : 0 < length (reverse back) = omega (arith, more, length-reverse back) in
    plain_by (front ++ 32 ∷ back) values (begins_visible front (32 ∷ back) first some)
    (ap skip_ows other ∙ begins_visible (reverse back) (reverse (front ++ 32 ∷ [])) (turned is_visible back second) ends ∙ sym other)

-- ---- numbers

digit_visible : (b : ℕ) → is_digit b ≡ true → is_visible b ≡ true
digit_visible b is = grind (arith, nat_tests)

pub decimal_visible : (n : ℕ) → n < 2 ^ 64 → list_all is_visible (decimal n) ≡ true
decimal_visible n small = weaker is_digit is_visible digit_visible (decimal n) (digits_decimal own n small)

pub decimal_plain : (n : ℕ) → n < 2 ^ 64 → is_plain (decimal n) ≡ true
decimal_plain n small = visible_plain (decimal n) (decimal_visible n small)

-- ---- the lines that stand last

pub sound_last : (body : List ℕ) → length body ≤ 65536 → list_all is_sound (last_lines body) ≡ true
unfolding is_token_byte
sound_last body small =
    let fits : length body < 2 ^ 64 = omega (arith, small) in
    and_from (is_sound (codes "Content-Length", decimal (length body))) (list_all is_sound ((codes "Connection", codes "close") ∷ [])) (decimal_plain (length body) fits)
    (and_from (is_sound (codes "Connection", codes "close")) true (visible_plain (codes "close") refl) refl)
