-- Words that don't begin with a letter.
use Rattle.std.proofs.Common.{◌≡◌, ◌≢◌, ℕ, List, [], ◌∷◌, None, refl}
use Rattle.report_text.proofs.EscapeLemmas.{other_byte}
use Rattle.script_lines.specs.Lines.{lettered}

pub unlettered : (letter : ℕ) (word : List ℕ) → ((rest : List ℕ) → word ≢ letter ∷ rest) → None ≡ lettered letter word
unlettered letter [] other = refl
unlettered letter (b ∷ digits) other = rw (other_byte b letter digits other) refl
