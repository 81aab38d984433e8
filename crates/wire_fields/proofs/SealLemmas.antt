-- A seal as it is spelled is of its form, and is the same as itself.
use Rattle.std.proofs.Common.{◌≡◌, ℕ, zero, suc, ◌/◌, ◌%◌, ◌<◌, ◌^◌, Bool, true, ◌&&◌, List, [], ◌∷◌, length, nat_eq, nat_lt, refl, ◌∙◌, arith}
use Rattle.std.specs.Prelude.{slice_index}
use Rattle.std.specs.Int.{byte_at, bytes_high_first, to_be_bytes, w32}
use Rattle.std.specs.List.{list_all}
use Rattle.std.specs.Str.{is_utf8}
use Rattle.std.proofs.lemmas.Bool.Decides.{nat_tests}
use Rattle.std.proofs.lemmas.List.Folds.{list_all-append}
use Rattle.std.proofs.lemmas.Slice.Eq.{bytes_eq-Decides}
use Rattle.hex.specs.Hex.{encode_lower, encode_with, lower_digits}
use Rattle.hex.proofs.HexLemmas.{length-encode_with}
use Rattle.sha2.specs.Sha256.{digest_bytes, sha256}
use Rattle.sha2.proofs.Facts256.{length-sha256}
use Rattle.lang_base.specs.Texts.{same_text}
use Rattle.peer_seal.specs.Seal.{hmac, seal_digits}
use Rattle.wire_fields.specs.Forms.{is_seal, is_seal_digit}
use Rattle.wire_fields.proofs.SpeltLemmas.{ascii_by, utf8_of_ascii}
use Rattle.std.proofs.lemmas.Bool.{and_from, and_parts}

abbrev is_byte : ℕ → Bool
is_byte b = nat_lt b 256

remainder : (x : ℕ) → is_byte (x % 256) ≡ true
remainder x = let small : x % 256 < 256 = omega arith in grind (arith, nat_tests, small)

one_byte : (i n : ℕ) → is_byte (byte_at i n) ≡ true
one_byte zero n = remainder n
one_byte (suc i) n = remainder (n / 256 ^ suc i)

some_bytes : (k n : ℕ) → list_all is_byte (bytes_high_first k n) ≡ true
some_bytes zero n = refl
some_bytes (suc k) n = and_from (is_byte (byte_at k n)) (list_all is_byte (bytes_high_first k n)) (one_byte k n) (some_bytes k n)

digest_is_bytes : (words : List ℕ) (n : ℕ) → list_all is_byte (digest_bytes words n) ≡ true
unfolding digest_bytes
digest_is_bytes words zero = refl
digest_is_bytes words (suc n) =
    list_all-append is_byte (digest_bytes words n) (to_be_bytes w32 (slice_index words n))
    ∙ and_from (list_all is_byte (digest_bytes words n)) (list_all is_byte (to_be_bytes w32 (slice_index words n)))
    (digest_is_bytes words n) (some_bytes 4 (slice_index words n))

sha_is_bytes : (m : List ℕ) → list_all is_byte (sha256 m) ≡ true
unfolding sha256
sha_is_bytes m = digest_is_bytes _ 8

passes_at : (p : ℕ → Bool) (xs : List ℕ) (i : ℕ) → list_all p xs ≡ true → i < length xs → p (slice_index xs i) ≡ true
passes_at p [] i all inside = absurd (omega arith)
passes_at p (x ∷ xs) zero all inside = (and_parts (p x) (list_all p xs) all).0
passes_at p (x ∷ xs) (suc i) all inside = passes_at p xs i (and_parts (p x) (list_all p xs) all).1 (omega arith)

digit_at : (d : ℕ) → d < 16 → is_seal_digit (slice_index lower_digits d) ≡ true
digit_at d inside = passes_at is_seal_digit lower_digits d refl inside

high_digit : (b : ℕ) → is_byte b ≡ true → b / 16 < 16
high_digit b is = let small : b < 256 = grind (arith, nat_tests) in omega (arith, small)

encoded : (bytes : List ℕ) → list_all is_byte bytes ≡ true → list_all is_seal_digit (encode_lower bytes) ≡ true
unfolding encode_with
encoded [] all = refl
encoded (b ∷ bs) all =
    let both = and_parts (is_byte b) (list_all is_byte bs) all in
    let rest = and_from (is_seal_digit (slice_index lower_digits (b % 16))) (list_all is_seal_digit (encode_lower bs))
    (digit_at (b % 16) (omega arith)) (encoded bs both.1) in
    and_from (is_seal_digit (slice_index lower_digits (b / 16)))
    (is_seal_digit (slice_index lower_digits (b % 16)) && list_all is_seal_digit (encode_lower bs))
    (digit_at (b / 16) (high_digit b both.0)) rest

seal_all : (key bytes : List ℕ) → list_all is_seal_digit (seal_digits key bytes) ≡ true
unfolding hmac
seal_all key bytes = encoded (hmac key bytes) (sha_is_bytes _)

seal_length : (key bytes : List ℕ) → length (seal_digits key bytes) ≡ 64
unfolding hmac
seal_length key bytes =
    let digits = length-encode_with lower_digits (hmac key bytes) in
    let whole : length (hmac key bytes) ≡ 32 = length-sha256 _ in
    omega (arith, digits, whole)

pub seal_form : (key bytes : List ℕ) → is_seal (seal_digits key bytes) ≡ true
seal_form key bytes =
    and_from (nat_eq (length (seal_digits key bytes)) 64) (list_all is_seal_digit (seal_digits key bytes))
    (rw (seal_length key bytes) refl) (seal_all key bytes)

seal_digit_small : (b : ℕ) → is_seal_digit b ≡ true → b < 128
seal_digit_small b is = grind (arith, nat_tests)

pub seal_utf8 : (key bytes : List ℕ) → is_utf8 (seal_digits key bytes) ≡ true
seal_utf8 key bytes = utf8_of_ascii (seal_digits key bytes) (ascii_by is_seal_digit seal_digit_small (seal_digits key bytes) (seal_all key bytes))

pub text_same : (text : List ℕ) → same_text text text ≡ true
text_same text = (bytes_eq-Decides text text).1 refl
