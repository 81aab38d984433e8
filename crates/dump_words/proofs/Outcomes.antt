-- The two outcomes of reading a line: it is text, or it isn't.
use Rattle.std.proofs.Common.{◌≡◌, ℕ, Bool, true, false, List, Err, refl}
use Rattle.std.specs.Str.{IsUtf8, is_utf8}
use Rattle.std.proofs.lemmas.Str.{IsUtf8-from_is_utf8, is_utf8-from_IsUtf8}
use Rattle.dump_words.specs.Lines.{line_at, words_at}
use Rattle.dump_words.specs.Parts.{cut_at}
use Rattle.dump_words.specs.declared.line.LineFault.TheVariants.{Text}

no_text : (bytes : List ℕ) (b : Bool) → is_utf8 bytes ≡ b → ¬ (IsUtf8 bytes) → b ≡ false
no_text bytes true e fails = absurd (fails (IsUtf8-from_is_utf8 bytes e))
no_text bytes false e fails = refl

pub line_at-no_text : (bytes : List ℕ) → ¬ (IsUtf8 bytes) → line_at bytes ≡ Err Text
unfolding line_at
line_at-no_text bytes fails = rw (no_text bytes (is_utf8 bytes) refl fails) refl

pub line_at-words : (bytes : List ℕ) → IsUtf8 bytes → line_at bytes ≡ words_at (cut_at 32 bytes).0 (cut_at 32 bytes).1
unfolding line_at
line_at-words bytes text = rw (is_utf8-from_IsUtf8 bytes text) refl
