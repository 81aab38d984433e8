-- Names, numbers and ids as they are written are of the form that they are read in, and read back.
use Rattle.std.proofs.Common.{◌≡◌, ℕ, zero, suc, ◌<◌, ◌^◌, Bool, true, false, ◌&&◌, not, List, [], ◌∷◌, ◌++◌, Some, length, decimal, nat_eq, nat_le, ◌==◌, refl, ap, arith}
use Rattle.std.specs.Char.{is_ascii_digit}
use Rattle.std.specs.List.{list_all, position_or_len}
use Rattle.std.specs.Str.{is_utf8, IsAscii}
use Rattle.std.proofs.lemmas.Bool.Decides.{nat_tests}
use Rattle.std.proofs.lemmas.Fmt.{decimal_digit, digits_decimal}
use Rattle.std.proofs.lemmas.Str.{IsAscii-append, IsUtf8-from_ascii, is_utf8-from_IsUtf8}
use Rattle.std.proofs.lemmas.Str.Ascii.{IsAscii-cons, IsAscii-nil}
use Rattle.lang_core.specs.Names.{is_name, is_name_byte}
use Rattle.request_names.proofs.Parsed.{own}
use Rattle.request_names.specs.Ids.{id_of, id_text}
use Rattle.request_names.specs.Numbers.{number_of}
use Rattle.std.specs.Result.{result_ok}
use Rattle.request_names.proofs.IdLemmas.{read_decimal, reads_back, three_hold}
use Rattle.std.proofs.lemmas.Bool.{and_parts}

-- ---- texts of ASCII bytes

pub ascii_by : (p : ℕ → Bool) → ((b : ℕ) → p b ≡ true → b < 128) → (bytes : List ℕ) → list_all p bytes ≡ true → IsAscii bytes
ascii_by p small [] all = IsAscii-nil
ascii_by p small (b ∷ bs) all =
    let both = and_parts (p b) (list_all p bs) all in
    IsAscii-cons b bs (small b both.0) (ascii_by p small bs both.1)

pub utf8_of_ascii : (bytes : List ℕ) → IsAscii bytes → is_utf8 bytes ≡ true
utf8_of_ascii bytes h = is_utf8-from_IsUtf8 bytes (IsUtf8-from_ascii bytes h)

-- ---- the first place of a byte

pub place_past : (p : ℕ → Bool) (c : ℕ) → ((b : ℕ) → p b ≡ true → (b == c) ≡ false) → (front rest : List ℕ) → list_all p front ≡ true
    → (c == c) ≡ true → position_or_len (λ b. b == c) (front ++ c ∷ rest) ≡ length front
place_past p c other [] rest all same = rw same refl
place_past p c other (b ∷ bs) rest all same =
    let both = and_parts (p b) (list_all p bs) all in
    let not_here : (b == c) ≡ false = other b both.0 in
    rw (not_here, place_past p c other bs rest both.1 same) (omega arith)

pub place_nowhere : (p : ℕ → Bool) (c : ℕ) → ((b : ℕ) → p b ≡ true → (b == c) ≡ false) → (bytes : List ℕ) → list_all p bytes ≡ true
    → position_or_len (λ b. b == c) bytes ≡ length bytes
place_nowhere p c other [] all = refl
place_nowhere p c other (b ∷ bs) all =
    let both = and_parts (p b) (list_all p bs) all in
    let not_here : (b == c) ≡ false = other b both.0 in
    rw (not_here, place_nowhere p c other bs both.1) (omega arith)

-- ---- names

name_bytes : (name : List ℕ) → is_name name ≡ true → list_all is_name_byte name ≡ true
name_bytes name is = (three_hold (not (nat_eq (length name) 0)) (nat_le (length name) 32) (list_all is_name_byte name) is).2

name_byte_small : (b : ℕ) → is_name_byte b ≡ true → b < 128
name_byte_small b is = grind (arith, nat_tests)

pub name_ascii : (name : List ℕ) → is_name name ≡ true → IsAscii name
name_ascii name is = ascii_by is_name_byte name_byte_small name (name_bytes name is)

pub name_utf8 : (name : List ℕ) → is_name name ≡ true → is_utf8 name ≡ true
name_utf8 name is = utf8_of_ascii name (name_ascii name is)

-- ---- numbers

digit_small : (b : ℕ) → is_ascii_digit b ≡ true → b < 128
digit_small b is = grind (arith, nat_tests)

pub decimal_ascii : (n : ℕ) → n < 2 ^ 64 → IsAscii (decimal n)
decimal_ascii n small = ascii_by is_ascii_digit digit_small (decimal n) (digits_decimal own n small)

pub decimal_utf8 : (n : ℕ) → n < 2 ^ 64 → is_utf8 (decimal n) ≡ true
decimal_utf8 n small = utf8_of_ascii (decimal n) (decimal_ascii n small)

zero_back : number_of (decimal 0) ≡ Some 0
zero_back = rw (decimal_digit 0 (omega arith)) refl

pub number_back : (n : ℕ) → n < 2 ^ 64 → number_of (decimal n) ≡ Some n
number_back zero small = zero_back
number_back (suc n) small = read_decimal (suc n) (omega arith) small

-- ---- ids

pub id_back : (name : List ℕ) (n : ℕ) → is_name name ≡ true → 0 < n → n < 2 ^ 64 → id_of (id_text name n) ≡ Some (name, n)
id_back name n is from_one small = ap result_ok (reads_back name n is from_one small)

pub id_utf8 : (name : List ℕ) (n : ℕ) → is_name name ≡ true → n < 2 ^ 64 → is_utf8 (id_text name n) ≡ true
id_utf8 name n is small =
    utf8_of_ascii (id_text name n)
    (IsAscii-append name (47 ∷ decimal n) (name_ascii name is) (IsAscii-cons 47 (decimal n) (omega arith) (decimal_ascii n small)))
