-- A text that begins with no escape, of a key or of another text.
use Rattle.std.proofs.Common.{◌≡◌, ◌≢◌, ℕ, Bool, true, false, List, ◌∷◌, None}
use Rattle.dump_words.specs.Escapes.{escape_at}
use Rattle.dump_words.proofs.EscapeLemmas.{none_of_four, none_of_three}

pub none_of_text : (k : Bool) (text : List ℕ) → k ≡ false → ((rest : List ℕ) → text ≢ 92 ∷ rest) → ((rest : List ℕ) → text ≢ 110 ∷ rest) → ((rest : List ℕ) → text ≢ 114 ∷ rest) → None ≡ escape_at k text
none_of_text true text h a b c = absurd cc
none_of_text false text h a b c = none_of_three text a b c

pub none_of_key : (k : Bool) (text : List ℕ) → k ≡ true → ((rest : List ℕ) → text ≢ 92 ∷ rest) → ((rest : List ℕ) → text ≢ 110 ∷ rest) → ((rest : List ℕ) → text ≢ 114 ∷ rest) → ((rest : List ℕ) → text ≢ 115 ∷ rest) → None ≡ escape_at k text
none_of_key true text h a b c d = none_of_four text a b c d
none_of_key false text h a b c d = absurd cc
