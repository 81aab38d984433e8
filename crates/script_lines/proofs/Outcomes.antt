-- The three outcomes of reading a line.
use Rattle.std.proofs.Common.{◌≡◌, ℕ, Bool, true, false, List, Ok, Err, refl}
use Rattle.std.specs.Str.{IsUtf8, is_utf8}
use Rattle.std.proofs.lemmas.Str.{IsUtf8-from_is_utf8, is_utf8-from_IsUtf8}
use Rattle.script_lines.specs.declared.line.Line.TheVariants.{Blank}
use Rattle.script_lines.specs.declared.line.LineFault.TheVariants.{Text}
use Rattle.script_lines.specs.Lines.{cut_at, is_passed_over, line_at, words_at}

pub line_at-passed : (bytes : List ℕ) → is_passed_over bytes ≡ true → line_at bytes ≡ Ok Blank
unfolding line_at
line_at-passed bytes over = rw over refl

no_text : (bytes : List ℕ) (b : Bool) → is_utf8 bytes ≡ b → ¬ (IsUtf8 bytes) → b ≡ false
no_text bytes true e fails = absurd (fails (IsUtf8-from_is_utf8 bytes e))
no_text bytes false e fails = refl

pub line_at-no_text : (bytes : List ℕ) → is_passed_over bytes ≡ false → ¬ (IsUtf8 bytes) → line_at bytes ≡ Err Text
unfolding line_at
line_at-no_text bytes over fails = rw (over, no_text bytes (is_utf8 bytes) refl fails) refl

pub line_at-words : (bytes : List ℕ) → is_passed_over bytes ≡ false → IsUtf8 bytes → line_at bytes ≡ words_at (cut_at 32 bytes).0 (cut_at 32 bytes).1
unfolding line_at
line_at-words bytes over text = rw (over, is_utf8-from_IsUtf8 bytes text) refl
