-- How characters and tokens are written.
use Rattle.std.proofs.Common.{◌≡◌, ℕ, ℤ, pos, negsuc, ◌^◌, ◌≤◌, Bool, true, false, cond, List, [], ◌∷◌, ◌++◌, refl, sym, ap, ◌∙◌, append_assoc, arith}
use Rattle.std.specs.Prelude.{nat_eq, nat_lt, encode_utf8, FitsSigned}
use Rattle.std.specs.List.{flat_map}
use Rattle.std.proofs.Math.Utf8.{encode}
use Rattle.std.proofs.lemmas.Bool.{lt-ltb, ltb-true}
use Rattle.std.proofs.lemmas.Int.{ints}
use Rattle.std.proofs.lemmas.Bool.Decides.{nat_tests}
use Rattle.std.proofs.lemmas.Str.{encode_ascii}
use Rattle.std.specs.Int.{w64}
use Rattle.lang_tokens.specs.Spelling.{escaped, is_small}

pub appends : (a b c : List ℕ) → (a ++ b) ++ c ≡ a ++ (b ++ c)
appends a b c = append_assoc a b c

-- a byte that stands for itself
as_it_is : (b : ℕ) → 128 ≤ b → escaped b ≡ b ∷ []
as_it_is b h =
    let quote : nat_eq b 34 ≡ false = grind (arith, nat_tests) in
    let back : nat_eq b 92 ≡ false = grind (arith, nat_tests) in
    let line : nat_eq b 10 ≡ false = grind (arith, nat_tests) in
    rw (quote, back, line) refl

two : (a b : ℕ) → 128 ≤ a → 128 ≤ b → flat_map escaped (a ∷ b ∷ []) ≡ a ∷ b ∷ []
two a b h g = rw (as_it_is a h, as_it_is b g) refl

three : (a b c : ℕ) → 128 ≤ a → 128 ≤ b → 128 ≤ c → flat_map escaped (a ∷ b ∷ c ∷ []) ≡ a ∷ b ∷ c ∷ []
three a b c h g f = rw (as_it_is a h, as_it_is b g, as_it_is c f) refl

four : (a b c d : ℕ) → 128 ≤ a → 128 ≤ b → 128 ≤ c → 128 ≤ d → flat_map escaped (a ∷ b ∷ c ∷ d ∷ []) ≡ a ∷ b ∷ c ∷ d ∷ []
four a b c d h g f e = rw (as_it_is a h, as_it_is b g, as_it_is c f, as_it_is d e) refl

long : (c : ℕ) (t u v : Bool) → nat_lt c 128 ≡ t → t ≡ false → nat_lt c 2048 ≡ u → nat_lt c 65536 ≡ v → flat_map escaped (encode c) ≡ encode c
unfolding encode
long c true u v e differs f g = absurd cc
long c false true v e differs f g = rw (e, f) (two _ _ (omega arith) (omega arith))
long c false false true e differs f g = rw (e, f, g) (three _ _ _ (omega arith) (omega arith) (omega arith))
long c false false false e differs f g = rw (e, f, g) (four _ _ _ _ (omega arith) (omega arith) (omega arith) (omega arith))

abbrev pub escape_of : ℕ → List ℕ → List ℕ
escape_of c rest = cond (nat_eq c 34) (92 ∷ 34 ∷ []) (cond (nat_eq c 92) (92 ∷ 92 ∷ []) (cond (nat_eq c 10) (92 ∷ 110 ∷ []) rest))

short : (c : ℕ) (q r n : Bool) → nat_eq c 34 ≡ q → nat_eq c 92 ≡ r → nat_eq c 10 ≡ n → flat_map escaped (c ∷ []) ≡ escape_of c (c ∷ [])
short c true r n e f g = rw e refl
short c false true n e f g = rw (e, f) refl
short c false false true e f g = rw (e, f, g) refl
short c false false false e f g = rw (e, f, g) refl

by_size : (c : ℕ) (t : Bool) → nat_lt c 128 ≡ t → flat_map escaped (encode c) ≡ escape_of c (encode c)
by_size c true e = let h = encode_ascii c (ltb-true _ _ e) in rw h (short c (nat_eq c 34) (nat_eq c 92) (nat_eq c 10) refl refl refl)
by_size c false e =
    let quote : nat_eq c 34 ≡ false = grind (arith, nat_tests) in
    let back : nat_eq c 92 ≡ false = grind (arith, nat_tests) in
    let line : nat_eq c 10 ≡ false = grind (arith, nat_tests) in
    rw (quote, back, line) (long c false (nat_lt c 2048) (nat_lt c 65536) e refl refl refl)

-- a character within a string
pub character_escaped : (c : ℕ) → flat_map escaped (encode_utf8 c) ≡ cond (nat_eq c 34) (92 ∷ 34 ∷ []) (cond (nat_eq c 92) (92 ∷ 92 ∷ []) (cond (nat_eq c 10) (92 ∷ 110 ∷ []) (encode_utf8 c)))
character_escaped c = by_size c (nat_lt c 128) refl

pub escaped_append : (a b : List ℕ) → flat_map escaped (a ++ b) ≡ flat_map escaped a ++ flat_map escaped b
escaped_append [] b = refl
escaped_append (x ∷ a) b = ap (λ (s : List ℕ). escaped x ++ s) (escaped_append a b) ∙ sym (append_assoc (escaped x) (flat_map escaped a) (flat_map escaped b))

pub signed_small : (n : ℤ) → FitsSigned w64 n → is_small n ≡ true
signed_small (pos n) h = lt-ltb n (2 ^ 63) (omega (arith, ints, h))
signed_small (negsuc n) h = refl
