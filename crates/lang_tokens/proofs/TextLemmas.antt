-- Bytes that are text.
use Rattle.std.proofs.Common.{◌≡◌, ℕ, zero, suc, ◌<◌, Bool, true, false, List, [], ◌∷◌, get_or, refl, arith}
use Rattle.std.specs.List.{list_all}
use Rattle.std.specs.Str.{IsUtf8, is_utf8}
use Rattle.std.proofs.lemmas.Bool.Decides.{nat_tests}
use Rattle.std.proofs.lemmas.Str.{IsUtf8-from_is_utf8, is_utf8-from_IsUtf8, IsUtf8-from_ascii}
use Rattle.lang_tokens.specs.Lexing.{is_word_part}

pub utf8_true : (bs : List ℕ) → IsUtf8 bs → is_utf8 bs ≡ true
utf8_true bs h = is_utf8-from_IsUtf8 bs h

by_cases : (bs : List ℕ) (b : Bool) → is_utf8 bs ≡ b → (IsUtf8 bs → ⊥) → b ≡ false
by_cases bs true e h = absurd (h (IsUtf8-from_is_utf8 bs e))
by_cases bs false e h = refl

pub utf8_false : (bs : List ℕ) → (IsUtf8 bs → ⊥) → is_utf8 bs ≡ false
utf8_false bs h = by_cases bs (is_utf8 bs) refl h

part_is_ascii : (b : ℕ) → is_word_part b ≡ true → b < 128
unfolding is_word_part
part_is_ascii b h = grind (arith, nat_tests)

first_passes : (p : ℕ → Bool) (b : ℕ) (w : List ℕ) (t : Bool) → p b ≡ t → list_all p (b ∷ w) ≡ true → (p b ≡ true) × (list_all p w ≡ true)
first_passes p b w true e h = (e, rw e at h)
first_passes p b w false e h = absurd (let k : false ≡ true = rw e at h in cc)

pub all_pass : (p : ℕ → Bool) (b : ℕ) (w : List ℕ) → list_all p (b ∷ w) ≡ true → (p b ≡ true) × (list_all p w ≡ true)
all_pass p b w h = first_passes p b w (p b) refl h

parts_are_ascii : (w : List ℕ) → list_all is_word_part w ≡ true → (i : ℕ) → get_or w i 0 < 128
parts_are_ascii [] h i = omega arith
parts_are_ascii (b ∷ w) h zero = part_is_ascii b (all_pass is_word_part b w h).0
parts_are_ascii (b ∷ w) h (suc i) = parts_are_ascii w (all_pass is_word_part b w h).1 i

-- a run of word bytes is ASCII
pub word_is_text : (w : List ℕ) → list_all is_word_part w ≡ true → IsUtf8 w
word_is_text w h = IsUtf8-from_ascii w (parts_are_ascii w h)
