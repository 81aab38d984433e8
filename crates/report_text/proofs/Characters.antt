-- What the characters of a body and of a key are printed as.
use Rattle.std.proofs.Common.{◌≡◌, ℕ, ◌<◌, ◌≤◌, Bool, true, false, cond, List, [], ◌∷◌, ◌++◌, append-nil, append_assoc, flat_map, nat_lt, if◌then◌else◌, refl, ◌∙◌, arith}
use Rattle.std.specs.Char.{encode_utf8}
use Rattle.std.specs.Str.{encode_utf8_all}
use Rattle.std.proofs.lemmas.List.Concat.{flat_map-append}
use Rattle.std.proofs.lemmas.Str.{encode_ascii, encodes-append}
use Rattle.std.proofs.lemmas.Bool.{ltb-true}
use Rattle.std.proofs.lemmas.Bool.Decides.{nat_tests}
use Rattle.report_text.specs.Reports.{body_byte, key_byte}

-- none of these bytes is ASCII
AreHigh : List ℕ → Type 0
AreHigh [] = Unit {0}
AreHigh (b ∷ bs) = (128 ≤ b) × AreHigh bs

-- prints each byte beyond ASCII as it is
IsPlain : (ℕ → List ℕ) → Type 0
IsPlain f = (b : ℕ) → 128 ≤ b → f b ≡ b ∷ []

high_stays : (f : ℕ → List ℕ) → IsPlain f → (bs : List ℕ) → AreHigh bs → flat_map f bs ≡ bs
unfolding AreHigh IsPlain
high_stays f plain [] high = refl
high_stays f plain (b ∷ bs) high = rw (plain b high.0, high_stays f plain bs high.1) refl

one_of : (x y : Bool) (two three four : List ℕ) → AreHigh two → AreHigh three → AreHigh four → AreHigh (cond x two (cond y three four))
one_of true y two three four a b c = a
one_of false true two three four a b c = b
one_of false false two three four a b c = c

encode_high : (c : ℕ) → nat_lt c 128 ≡ false → AreHigh (encode_utf8 c)
unfolding encode_utf8 AreHigh
encode_high c e = rw e (one_of (nat_lt c 2048) (nat_lt c 65536) _ _ _
    (omega arith, (omega arith, tt)) (omega arith, (omega arith, (omega arith, tt))) (omega arith, (omega arith, (omega arith, (omega arith, tt)))))

char_by : (f : ℕ → List ℕ) → IsPlain f → (c : ℕ) (b : Bool) → nat_lt c 128 ≡ b → flat_map f (encode_utf8 c) ≡ cond b (f c) (encode_utf8 c)
char_by f plain c true e = let small : c < 128 = ltb-true c 128 e in rw encode_ascii (append-nil (f c))
char_by f plain c false e = high_stays f plain (encode_utf8 c) (encode_high c e)

body_plain : IsPlain body_byte
unfolding IsPlain
body_plain b h = grind (arith, nat_tests)

key_plain : IsPlain key_byte
unfolding IsPlain
key_plain b h = grind (arith, nat_tests)

pub body_char : (c : ℕ) → flat_map body_byte (encode_utf8 c) ≡ (if nat_lt c 128 then body_byte c else encode_utf8 c)
body_char c = char_by body_byte body_plain c (nat_lt c 128) refl

pub key_char : (c : ℕ) → flat_map key_byte (encode_utf8 c) ≡ (if nat_lt c 128 then key_byte c else encode_utf8 c)
key_char c = char_by key_byte key_plain c (nat_lt c 128) refl

-- a character more
pub character_more : (f : ℕ → List ℕ) (before now next cs : List ℕ) (c : ℕ) → now ≡ before ++ flat_map f (encode_utf8_all cs) → next ≡ now ++ flat_map f (encode_utf8 c) → next ≡ before ++ flat_map f (encode_utf8_all (cs ++ c ∷ []))
character_more f before now next cs c sofar more =
    more ∙ rw (sofar, encodes-append cs (c ∷ []), append-nil (encode_utf8 c), flat_map-append f (encode_utf8_all cs) (encode_utf8 c))
    (append_assoc before (flat_map f (encode_utf8_all cs)) (flat_map f (encode_utf8 c)))
